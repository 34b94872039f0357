use Rattle.aql_parse.proofs.parser.Parser.+unary_from.Given as goal

abbrev pub decreases-unary_from : goal.decreases-unary_from
decreases-unary_from g l = l.turns
