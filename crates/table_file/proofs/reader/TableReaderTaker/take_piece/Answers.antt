use Rattle.table_file.proofs.Words.{◌≡◌, true, sym, ap, subst, is_some, Reader}
use Rattle.table_file.proofs.Readers.{taken_stopped}
use Rattle.table_file.proofs.reader.TableReaderTaker.take_piece.Goals as goal

pub returns-then-is_some : goal.returns-then-is_some
returns-then-is_some c = record {
  taken =
      taken_stopped c.args.self.now _ c.args.piece.now (subst (λ (r : Reader). is_some r.stop ≡ true) c.self.view_is (sym c.if-is_some.ensures))
      (ap (λ (r : Reader). r.stop) c.self.view_is) (ap (λ (r : Reader). r.part) c.self.view_is) c.clear.ensures;
}
