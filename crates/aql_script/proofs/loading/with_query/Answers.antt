use Rattle.std.proofs.Common.{◌≡◌, true, false, Ok, inr, refl, sym, ap, ◌∙◌, List, ℕ}
use Rattle.std.specs.Str.{is_utf8}
use Rattle.std.proofs.lemmas.Bool.{false_from_ne_true}
use Rattle.std.proofs.lemmas.Str.{is_utf8-from_IsUtf8, IsUtf8-from_is_utf8}
use Rattle.aql_script.specs.declared.loading.Loaded.{Loaded}
use Rattle.aql_script.proofs.loading.with_query.Goals as goal

pub returns-in_ok-query-in-Ok : goal.returns-in_ok-query-in-Ok
returns-in_ok-query-in-Ok c =
    let same : c.in_ok-query-in-Ok.query ≡ c.args.text.now =
    c.in_ok-query-in-Ok.ensures ∙ c.in-Ok.ensures.cases.0 in
    let good : is_utf8 c.args.text.now ≡ true = is_utf8-from_IsUtf8 c.args.text.now c.in-Ok.ensures.cases.1 in
    let with_text : List ℕ → Loaded = λ q. record { catalog = c.args.catalog; query = q } in
    rw good (ap (λ q. Ok (with_text q)) (sym same))

pub returns-in-Err : goal.returns-in-Err
returns-in-Err c =
    let bad : is_utf8 c.args.text.now ≡ false =
    false_from_ne_true _ (λ e. c.in-Err.ensures.cases.0 (IsUtf8-from_is_utf8 c.args.text.now e)) in
    inr (rw bad refl)
