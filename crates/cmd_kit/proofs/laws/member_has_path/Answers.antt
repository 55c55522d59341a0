use Rattle.cmd_kit.proofs.MemberLaw.{member_has_path}
use Rattle.cmd_kit.proofs.laws.member_has_path.Goals as goal

pub returns : goal.returns
returns c = member_has_path c.file_laws.ensures.tables
