-- One more value of a list: what is left begins with it, and what is done ends with it.
use Rattle.std.proofs.Common.{◌≡◌, ℕ, suc, ◌+◌, ◌<◌, List, [], ◌∷◌, ◌++◌, length, get_or, take, drop, ap, sym, subst, ◌∙◌, add-one}
use Rattle.std.proofs.Math.Seq.{drop-cons}
use Rattle.std.proofs.lemmas.List.{take_more, map-append}
use Rattle.aql_value.specs.declared.values.Value.{Value}
use Rattle.aql_value.specs.View.{datum_of, datums_in}

pub left_values : {A : Type 0} (vs : List A) (i : ℕ) (v : A) → i < length vs → v ≡ get_or vs i v
    → drop i vs ≡ v ∷ drop (i + 1) vs
left_values {A = A} vs i v h e = subst (λ n. drop i vs ≡ v ∷ drop n vs) (sym (add-one i))
    (subst (λ (x : A). drop i vs ≡ x ∷ drop (suc i) vs) (sym e) (drop-cons vs i v h))

pub left : (vs : List Value) (i : ℕ) (v : Value) → i < length vs → v ≡ get_or vs i v
    → datums_in (drop i vs) ≡ datum_of v ∷ datums_in (drop (i + 1) vs)
left vs i v h e = ap datums_in (left_values vs i v h e)

pub done : (vs : List Value) (i : ℕ) (v : Value) → i < length vs → v ≡ get_or vs i v
    → datums_in (take (i + 1) vs) ≡ datums_in (take i vs) ++ datum_of v ∷ []
done vs i v h e = ap datums_in (subst (λ (x : Value). take (i + 1) vs ≡ take i vs ++ x ∷ []) (sym e)
    (take_more vs i v h)) ∙ map-append datum_of (take i vs) (v ∷ [])
