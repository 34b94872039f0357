use Rattle.aql_lex.specs.laws.Spellings.{symbol_shortens}
use Rattle.aql_lex.proofs.CodeTables.{symbol_table}
use Rattle.aql_lex.specs.laws.Names.{symbol_takes, no_symbol_takes}
use Rattle.aql_lex.proofs.scans.symbol.Goals as goal

pub symbol_in-requires-clause-table : goal.symbol_in-requires-clause-table
symbol_in-requires-clause-table c = symbol_table

pub returns-in-Some-clause-takes : goal.returns-in-Some-clause-takes
returns-in-Some-clause-takes c =
    symbol_takes c.args.text.now c.requires.other c.requires.no_comment _ _ c.in-Some.ensures.longest

pub returns-in-Some-clause-leaves : goal.returns-in-Some-clause-leaves
returns-in-Some-clause-leaves c =
    (c.in-Some.ensures.utf8, symbol_shortens _ _ _ c.in-Some.ensures.longest.stands)

pub returns-in-None-clause-takes : goal.returns-in-None-clause-takes
returns-in-None-clause-takes c =
    no_symbol_takes c.args.text.now c.requires.other c.requires.no_comment c.in-None.ensures.longest
