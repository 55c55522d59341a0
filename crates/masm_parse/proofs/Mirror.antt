-- The lists of the code against the bodies and configurations of the definitions.
use Rattle.masm_parse.proofs.Words.{◌≡◌, List, [], ◌∷◌, ◌++◌, map, reverse, length, refl, ap, ◌∙◌}
use Rattle.std.proofs.lemmas.List.{length-map, length-reverse, reverse-append}
use Rattle.masm_tree.proofs.Mirror.{body_of_push, body_of_nil, view-Instr, view-Exec, view-Call, view-Syscall, view-ProcRef, view-DynExec, view-If, view-While, view-Repeat}
use Rattle.masm_parse.specs.declared.configuration.OpenConstruct.{OpenConstruct}
use Rattle.masm_parse.specs.Views.{open_view, opens_view}

pub frames_view_nil : opens_view [] ≡ []
unfolding opens_view
frames_view_nil = refl

pub frames_view_push : (fs : List OpenConstruct) (f : OpenConstruct) → opens_view (fs ++ f ∷ []) ≡ open_view f ∷ opens_view fs
unfolding opens_view
frames_view_push fs f = ap (map open_view) (reverse-append fs (f ∷ []))

pub length_frames_view : (fs : List OpenConstruct) → length (opens_view fs) ≡ length fs
unfolding opens_view
length_frames_view fs = length-map (reverse fs) open_view ∙ length-reverse fs

pub ruleset mirror = (
  body_of_push,
  body_of_nil,
  frames_view_push,
  frames_view_nil,
  length_frames_view,
  view-Instr,
  view-Exec,
  view-Call,
  view-Syscall,
  view-ProcRef,
  view-DynExec,
  view-If,
  view-While,
  view-Repeat,
)
