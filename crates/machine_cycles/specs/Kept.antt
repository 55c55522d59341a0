-- An event as it is kept: what it has of its own, and what stands in the lists beside it.
use Rattle.std.specs.Prelude.{ℕ, List, [], ◌∷◌, ◌++◌, map, slice_index, All, Option, Some, None}
use Rattle.vm_field.specs.Machine.{zero_word}
use Rattle.machine_cycles.specs.Names.{AreWithin, elements_named, lower_named, scene_named, zeros}
use Rattle.machine_cycles.specs.declared.event.Event.{Event}
use Rattle.machine_cycles.specs.declared.event.Visible.{Visible}
use Rattle.machine_cycles.specs.declared.names.Lists.{Lists}
use Rattle.machine_cycles.specs.declared.names.Scene.{Scene}
use Rattle.machine_cycles.specs.declared.log.Kept.{Kept}
use Rattle.machine_cycles.specs.declared.log.Use.{Use}
use Rattle.machine_cycles.specs.declared.log.Use.TheVariants.{Immediate, Operation, Block}

-- what an event shows of the eight elements that its cycle uses; the rest is 0
abbrev pub imm_in : Use → List ℕ → Option ℕ
imm_in Immediate elements = Some (slice_index elements 0)
imm_in Operation elements = None
imm_in Block elements = None

abbrev pub word_in : Use → List ℕ → List ℕ
word_in Immediate elements = zero_word
word_in Operation elements = slice_index elements 0 ∷ slice_index elements 1 ∷ slice_index elements 2 ∷ slice_index elements 3 ∷ []
word_in Block elements = zero_word

abbrev pub tape_in : Use → List ℕ → List ℕ
tape_in Immediate elements = zero_word
tape_in Operation elements = slice_index elements 4 ∷ slice_index elements 5 ∷ slice_index elements 6 ∷ slice_index elements 7 ∷ []
tape_in Block elements = zero_word

abbrev pub hash_in : Use → List ℕ → List ℕ
hash_in Immediate elements = zeros
hash_in Operation elements = zeros
hash_in Block elements = elements

-- the state before the event's cycle, in a scene and with these cells below the fourth
abbrev pub visible_in : Scene → List ℕ → Kept → Visible
visible_in scene lower k = record {
  clock = k.clock;
  context = scene.context;
  fmp = scene.fmp;
  in_syscall = scene.in_syscall;
  digest = scene.digest;
  nesting = scene.nesting;
  depth = k.depth;
  cells = k.top ++ lower;
}

abbrev pub event_in : Scene → List ℕ → List ℕ → Kept → Event
event_in scene lower elements k = record {
  op = k.op;
  before = visible_in scene lower k;
  imm = imm_in k.kind elements;
  tape = tape_in k.kind elements;
  word = word_in k.kind elements;
  hash = hash_in k.kind elements;
  result = k.result;
}

abbrev pub event_of : Lists → Kept → Event
event_of lists k = event_in (scene_named lists k.names) (lower_named lists k.names) (elements_named lists k.names) k

abbrev pub events_of : Lists → List Kept → List Event
events_of lists items = map (event_of lists) items

-- each event names what there is
abbrev pub HaveNames : Lists → List Kept → Type 0
HaveNames lists items = All (λ k. AreWithin lists k.names) items
