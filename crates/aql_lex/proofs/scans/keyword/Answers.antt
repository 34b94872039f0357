use Rattle.aql_lex.proofs.CodeTables.{keyword_table}
use Rattle.aql_lex.proofs.scans.keyword.Goals as goal

pub keyword_in-requires : goal.keyword_in-requires
keyword_in-requires c = keyword_table
