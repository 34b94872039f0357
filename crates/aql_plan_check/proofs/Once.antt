-- Collections that are named once each.
use Rattle.std.proofs.Common.{◌≡◌, ◌∙◌, ℕ, List, [], ◌∷◌, map, length, true, false, true≢false, eqb, refl, ap, sym, subst}
use Rattle.std.specs.Prelude.{◌||◌, ◌↔◌}
use Rattle.std.specs.List.{list_any, AllByRecursion, IsDistinct}
use Rattle.std.proofs.lemmas.List.{nil_from_length}
use Rattle.std.proofs.lemmas.Bool.{or_parts}
use Rattle.aql_value.specs.declared.lists.CollNo.{CollNo}

all_others : (n : ℕ) (ns : List ℕ) → list_any (eqb n) ns ≡ false → AllByRecursion (λ m. eqb n m ≡ false) ns
all_others n [] h = tt
all_others n (m ∷ ms) h =
    let k = or_parts (eqb n m) (list_any (eqb n) ms) h in (k.0, all_others n ms k.1)

not_among : (n : ℕ) (ns : List ℕ) → AllByRecursion (λ m. eqb n m ≡ false) ns → list_any (eqb n) ns ≡ false
not_among n [] h = refl
not_among n (m ∷ ms) h = ap (λ b. b || list_any (eqb n) ms) h.0 ∙ not_among n ms h.1

abbrev numbers : List CollNo → List ℕ
numbers cs = map (λ (c : CollNo). c.0) cs

abbrev pub Once : List CollNo → Type 0
Once cs = IsDistinct eqb (numbers cs)

no_collection : Once []
unfolding IsDistinct
no_collection = tt

pub none_once : (cs : List CollNo) → length cs ≡ 0 → Once cs
none_once cs h = subst (λ (ds : List CollNo). Once ds) (sym (nil_from_length cs h)) no_collection

pub once_over : (c : CollNo) (cs : List CollNo) → list_any (eqb c.0) (numbers cs) ≡ false
    → Once cs ↔ Once (c ∷ cs)
unfolding IsDistinct
once_over c cs h = ((λ d. (all_others c.0 (numbers cs) h, d)), (λ d. d.1))

pub twice_over : (c : CollNo) (cs : List CollNo) → list_any (eqb c.0) (numbers cs) ≡ true → Once (c ∷ cs) → ⊥
unfolding IsDistinct
twice_over c cs h d = true≢false (sym h ∙ not_among c.0 (numbers cs) d.0)
