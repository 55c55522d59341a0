use Rattle.std.proofs.Common.{◌≡◌, drop}
use Rattle.show_why.specs.Neighbours.{scene_of}
use Rattle.show_why.specs.Scenes.{nothing_before}
use Rattle.show_why.specs.Views.{scene_view}
use Rattle.show_why.proofs.neighbours.scene_of.Given as goal

abbrev pub invariant-loop-token : goal.invariant-loop-token
invariant-loop-token l =
    scene_of l.is_kernel l.source (scene_view l.scene) (drop l.token-index l.tokens) ≡ scene_of l.is_kernel l.source nothing_before l.tokens
