use Rattle.std.proofs.Common.{◌≡◌, ◌∙◌, rules, ap, sym, map, List, None, Some}
use Rattle.cmd_reading.proofs.OneByOne.{Use}
use Rattle.std.specs.Prelude.{is_some}
use Rattle.clap.specs.Words.{found_of}
use Rattle.cmd_reading.specs.Form.{form_of}
use Rattle.cmd_reading.proofs.FormReads.{words-say, words-refused}
use Rattle.cmd_reading.proofs.SaysLemmas.{each-there, form-needs, texts-are}
use Rattle.cmd_reading.proofs.Meant.{meant-is-read, read-says, texts-same}
use Rattle.cmd_reading.proofs.reading.read_words.Goals as goal

pub returns-in_err-matches-clause-usage : goal.returns-in_err-matches-clause-usage
returns-in_err-matches-clause-usage c = λ e m.
    let refused = words-refused _ c.requires.names _ c.requires.text (c.in_err-matches.ensures.usage (search rules)) in
    let read = meant-is-read _ c.requires.names _ m in
    none-some read.0 (sym refused ∙ read.1)
  where
    none-some : (us : List Use) → None ≡ Some us → ⊥
    none-some us q = cc

pub all_given-requires : goal.all_given-requires
all_given-requires c =
    let found = c.in_ok-matches.ensures.ok in
    let says = words-say _ c.requires.names _ c.requires.text (found_of c.in_ok-matches.matches) found.0 found.1 in
    λ k d l. ap is_some (says.2 _) ∙ each-there c.args.places.now says.0
    (form-needs (form_of c.args.places.now c.args.needed.now c.args.free.now) (map (λ s. s.now) c.args.words.now) says.0 says.1).0 k d l

pub all_given-requires-2 : goal.all_given-requires-2
all_given-requires-2 c =
    let found = c.in_ok-matches.ensures.ok in
    let says = words-say _ c.requires.names _ c.requires.text (found_of c.in_ok-matches.matches) found.0 found.1 in
    λ k d l. ap is_some (says.2 _) ∙ each-there c.args.needed.now says.0
    (form-needs (form_of c.args.places.now c.args.needed.now c.args.free.now) (map (λ s. s.now) c.args.words.now) says.0 says.1).1 k d l

pub returns-clause-ok : goal.returns-clause-ok
returns-clause-ok c =
    let found = c.in_ok-matches.ensures.ok in
    let says = words-say _ c.requires.names _ c.requires.text (found_of c.in_ok-matches.matches) found.0 found.1 in
    let read = read-says (form_of c.args.places.now c.args.needed.now c.args.free.now) c.requires.names (map (λ s. s.now) c.args.words.now) says.0 says.1 in
    record {
      form = read.0;
      texts = texts-same
          (c.in_ok-all_given.ensures.ok ∙ texts-are (found_of c.in_ok-matches.matches) says.0 says.2 c.args.places.now)
          (c.in_ok-all_given-2.ensures.ok ∙ texts-are (found_of c.in_ok-matches.matches) says.0 says.2 c.args.needed.now)
          (c.in_ok-some_given.ensures.ok ∙ texts-are (found_of c.in_ok-matches.matches) says.0 says.2 c.args.free.now)
          ∙ read.1;
    }
