-- The words that the proofs of this crate have in common.
pub use Rattle.std.proofs.Common.{Bool, Err, IfOk, List, None, Ok, Option, Result, Some, [], ap, append-nil, append_assoc, arith, codes, cond, drop, false}
pub use Rattle.std.proofs.Common.{inl, inr, le-leb, leb-true, length, length-append, ltb-false, ltb-true, map, nat_le, refl, reverse, subst, suc, sym, true}
pub use Rattle.std.proofs.Common.{zero, ℕ, ◌&&◌, ◌++◌, ◌+◌, ◌<◌, ◌∙◌, ◌∷◌, ◌≡◌, ◌≤◌}
pub use Rattle.std.proofs.lemmas.List.{map-append}
pub use Rattle.std.specs.List.{AllByRecursion, flat_map}
pub use Rattle.std.specs.Option.{option_map}
pub use Rattle.masm_lex.specs.Tokens.{lexed, place_after, text_of}
pub use Rattle.masm_lex.specs.declared.cursor.Cursor.{Cursor}
pub use Rattle.masm_lex.specs.declared.list.Token.{Token}
pub use Rattle.masm_parse.specs.Machine.{Behind, Configuration, In_else, In_if, In_repeat, In_while, Inside, OpenStatement, Parse, Top, advance, at_of}
pub use Rattle.masm_parse.specs.Machine.{closed, ended, is_too_deep, parse_from, procedure, reduce, settled, shift, start}
unfoldable pub use Rattle.masm_parse.specs.Machine.{moved, parsed, step}
pub use Rattle.masm_parse.specs.declared.refusal.ParseError.{ParseError}
pub use Rattle.masm_parse.specs.declared.refusal.ParseError.TheVariants.{Bad, Memory}
pub use Rattle.masm_reading.specs.declared.constant.Const.{Const}
pub use Rattle.masm_tree.specs.Causes.{is_early, order}
pub use Rattle.masm_tree.specs.Classify.{Context, classify, known_after}
pub use Rattle.masm_tree.specs.Terminals.{const_positions, constants, is_opening, may_begin, terminal_positions}
pub use Rattle.masm_tree.specs.Trees.{Body, Empty, If_then, Leaf_then, Procedure, Repeat_then, Source, While_then, append, position_of}
pub use Rattle.masm_tree.specs.declared.refusal.Cause.{Cause}
pub use Rattle.masm_tree.specs.declared.terminal.Header.{Header}
pub use Rattle.masm_tree.specs.declared.terminal.Role.{Role}
pub use Rattle.masm_tree.specs.declared.terminal.Symbol.{Symbol}
pub use Rattle.masm_tree.specs.declared.terminal.Terminal.{Terminal}
pub use Rattle.masm_tree.specs.declared.tree.Position.{Position}
