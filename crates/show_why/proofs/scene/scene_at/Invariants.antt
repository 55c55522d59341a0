use Rattle.std.proofs.Common.{◌≡◌, drop}
use Rattle.show_why.specs.Scenes.{nothing_before, scene_from}
use Rattle.show_why.specs.Views.{scene_view}
use Rattle.show_why.proofs.scene.scene_at.Given as goal

abbrev pub invariant-loop-token : goal.invariant-loop-token
invariant-loop-token l =
    scene_from l.is_kernel l.source l.line l.column (scene_view l.scene) (drop l.token-index l.tokens)
    ≡ scene_from l.is_kernel l.source l.line l.column nothing_before l.tokens
