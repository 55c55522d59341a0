-- A form of words, as clap sees it.
use Rattle.std.specs.Prelude.{◌≡◌, ◌≢◌, Bool, List, [], ◌++◌, map, codes, false, true, Some}
use Rattle.clap.specs.Words.{App, Rule, fault_of, matches_of, new_app, new_rule, rows_of, Text}
use Rattle.clap.specs.declared.parser.matches.Found.{Found}
use Rattle.cmd_reading.specs.Form.{WordForm}

abbrev pub place_rule : Text → Rule
place_rule id = record (new_rule id) { required = true }

abbrev pub option_rule : Bool → Text → Rule
option_rule required id = record (new_rule id) { long = Some id; required = required }

abbrev pub with_rules : App → List Rule → App
with_rules a rs = record a { top = record a.top { rules = a.top.rules ++ rs } }

abbrev pub bare_app : App
bare_app = record (new_app (codes "words")) {
  top = record (new_app (codes "words")).top { no_binary_name = true; disable_help_flag = true; disable_version_flag = true };
}

abbrev pub form_rules : WordForm → List Rule
form_rules f = map place_rule f.places ++ (map (option_rule true) f.needed ++ map (option_rule false) f.free)

abbrev pub form_app : WordForm → App
form_app f = with_rules bare_app (form_rules f)

-- clap finds no fault in words, and finds this
abbrev pub IsFound : WordForm → List Text → Found → Type 0
IsFound f words found = (fault_of (form_app f) words ≡ []) × (rows_of found ≡ matches_of (form_app f) words)

-- clap finds a fault in words
abbrev pub IsFaulty : WordForm → List Text → Type 0
IsFaulty f words = fault_of (form_app f) words ≢ []
