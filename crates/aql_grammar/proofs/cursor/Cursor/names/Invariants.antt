use Rattle.std.proofs.Common.{◌≡◌, ◌-◌}
use Rattle.aql_grammar.specs.Input.{name, comma_list, comma_list_from}
use Rattle.aql_grammar.proofs.cursor.Cursor.names.Given as goal

abbrev pub invariant-loop-turn : goal.invariant-loop-turn
invariant-loop-turn l =
    comma_list name l.fn.self ≡ comma_list_from name (l._turn-end - l._turn) l.found l.self
