use Rattle.table_file.proofs.FileLaws.{read-back, versions-read, one-spelling, says-version, fits-version, counts-may, tables-shaped}
use Rattle.table_file.proofs.laws.file_laws.Goals as goal

pub returns : goal.returns
returns c = record {
  read_back = read-back;
  versions_read = versions-read;
  one_spelling = λ bytes t low. one-spelling bytes low t;
  versions = says-version;
  limits = fits-version;
  counts = counts-may;
  tables = tables-shaped;
}
