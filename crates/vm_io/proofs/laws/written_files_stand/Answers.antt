use Rattle.vm_io.proofs.LawLemmas.{whole_stands, front_stands}
use Rattle.vm_io.proofs.laws.written_files_stand.Goals as goal

pub returns-clause-whole : goal.returns-clause-whole
returns-clause-whole c = whole_stands

pub returns-clause-front : goal.returns-clause-front
returns-clause-front c = front_stands
