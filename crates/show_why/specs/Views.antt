-- What is seen of a source, as the code holds it.
use Rattle.std.specs.Prelude.{◌≡◌, [], map, option_map, unwrap_or}
use Rattle.masm_reading.specs.Reading.{parts_of}
use Rattle.show_why.specs.Scenes.{Scene}
use Rattle.show_why.specs.Sights.{Sight}
use Rattle.show_why.specs.declared.scene.Scene as held
use Rattle.show_why.specs.declared.sight.Sight as code

abbrev pub scene_view : held.Scene → Scene
scene_view s = record {
  context = record { consts = s.consts; locals = s.locals };
  headers = s.headers.items;
  opens = s.opens.items;
}

-- the scene and the token are those of a sight, and these are the token's parts
pub record IsSight (held : code.Sight) (sight : Sight) : Type 0 where
  pub scene : scene_view held.scene ≡ sight.scene
  pub token : option_map (λ token. token.now) held.token ≡ sight.token
  pub next : option_map (λ token. token.now) held.next ≡ sight.next
  pub procedures : held.procedures.items ≡ sight.procedures
  pub parts : map (λ part. part.now) held.parts.items ≡ parts_of (unwrap_or sight.token [])
