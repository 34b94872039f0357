-- Parts of a list of values are parts of the list of their trees.
use Rattle.std.proofs.Common.{◌≡◌, ℕ, ℤ, pos, negsuc, zero, suc, ◌+◌, ◌-◌, List, [], ◌∷◌, length, take, drop, refl, ap, sym, ◌∙◌}
use Rattle.aql_value.specs.declared.values.Value.{Value}
use Rattle.aql_value.specs.View.{datum_of, datums_in}
use Rattle.aql_func.specs.Lists.{up_to}
use Rattle.aql_func.specs.inner.Prefixes.{prefix_length}

pub trees_taken : (n : ℕ) (vs : List Value) → datums_in (take n vs) ≡ take n (datums_in vs)
trees_taken zero vs = refl
trees_taken (suc n) [] = refl
trees_taken (suc n) (v ∷ vs) = ap (λ l. datum_of v ∷ l) (trees_taken n vs)

pub trees_dropped : (n : ℕ) (vs : List Value) → datums_in (drop n vs) ≡ drop n (datums_in vs)
trees_dropped zero vs = refl
trees_dropped (suc n) [] = refl
trees_dropped (suc n) (v ∷ vs) = trees_dropped n vs

pub trees_counted : (vs : List Value) → length (datums_in vs) ≡ length vs
trees_counted [] = refl
trees_counted (v ∷ vs) = ap suc (trees_counted vs)

pub kept_up_to : (k : ℤ) (vs : List Value) → datums_in (take (prefix_length (length vs) k) vs)
    ≡ up_to k (datums_in vs)
kept_up_to (pos k) vs = trees_taken k vs
kept_up_to (negsuc k) vs = trees_taken (length vs - (k + 1)) vs
    ∙ ap (λ n. take (n - (k + 1)) (datums_in vs)) (sym (trees_counted vs))
