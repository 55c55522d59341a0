use Rattle.std.proofs.Common.{[], ◌∙◌, append-nil, ap, reverse, sym}
use Rattle.std.proofs.lemmas.List.{reverse-reverse}
use Rattle.machine_cycles.proofs.names.Lists.names.Goals as goal

pub returns-in_err-scene-clause-grown : goal.returns-in_err-scene-clause-grown
returns-in_err-scene-clause-grown c = record {
  scenes = c.name_scene.ensures.more.0;
  cells = [];
  uses = [];
  more_scenes = c.name_scene.ensures.more.1;
  more_cells = sym (append-nil _);
  more_uses = sym (append-nil _);
}

pub returns-in_err-lower-clause-grown : goal.returns-in_err-lower-clause-grown
returns-in_err-lower-clause-grown c = record {
  scenes = c.name_scene.ensures.more.0;
  cells = c.name_lower.ensures.more.0;
  uses = [];
  more_scenes = c.name_scene.ensures.more.1;
  more_cells = c.name_lower.ensures.more.1;
  more_uses = sym (append-nil _);
}

pub returns-in_err-elements-clause-grown : goal.returns-in_err-elements-clause-grown
returns-in_err-elements-clause-grown c = record {
  scenes = c.name_scene.ensures.more.0;
  cells = c.name_lower.ensures.more.0;
  uses = c.name_elements.ensures.more.0;
  more_scenes = c.name_scene.ensures.more.1;
  more_cells = c.name_lower.ensures.more.1;
  more_uses = c.name_elements.ensures.more.1;
}

pub returns-clause-grown : goal.returns-clause-grown
returns-clause-grown c = record {
  scenes = c.name_scene.ensures.more.0;
  cells = c.name_lower.ensures.more.0;
  uses = c.name_elements.ensures.more.0;
  more_scenes = c.name_scene.ensures.more.1;
  more_cells = c.name_lower.ensures.more.1;
  more_uses = c.name_elements.ensures.more.1;
}

pub returns-clause-named : goal.returns-clause-named
returns-clause-named c = record {
  within = record {
    scene = c.in_ok-scene.ensures.is.0;
    lower = c.in_ok-lower.ensures.is.0;
    elements = c.in_ok-elements.ensures.is.0;
  };
  scene = c.in_ok-scene.ensures.is.1;
  lower = ap reverse c.in_ok-lower.ensures.is.1 ∙ reverse-reverse _;
  elements = c.in_ok-elements.ensures.is.1;
}
