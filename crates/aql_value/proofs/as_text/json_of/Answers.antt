use Rattle.std.proofs.lemmas.Bool.{false≢true}
use Rattle.std.proofs.Common.{◌++◌, IsUtf8, ap, subst, sym, ◌∙◌}
use Rattle.aql_value.specs.View.{datum_of}
use Rattle.aql_value.specs.Json.{json_text}
use Rattle.aql_value.proofs.Back.{text_utf8}
use Rattle.aql_value.proofs.as_text.json_of.Goals as goal

pub unreachable-requires : goal.unreachable-requires
unreachable-requires c =
    let value = datum_of c.args.value.now in
    let written = c.in_ok-write_json.ensures.ok
    ∙ ap (λ bytes. bytes ++ json_text value) c.new-bytes.ensures.items in
    false≢true (c.in-Err.ensures.succeeds (subst IsUtf8 (sym written) (text_utf8 value
    c.recall_well_formed.ensures)))
