-- The query of the script that is made has no fault over its two collections.
use Rattle.std.proofs.Common.{◌≡◌, ℕ, Bool, true, List, [], ◌∷◌, None, refl, sym, subst}
use Rattle.std.specs.Prelude.{codes}
use Rattle.aql_doc.specs.Held.{Held}
use Rattle.aql_scope.specs.Faults.{first_fault}
use Rattle.aql_top.proofs.made.Query.{made_query}

-- a collection by this name, which holds edges or not
abbrev called : List ℕ → Bool → Held → Held
called name edge h = record h { info = record h.info { name = name; edge = edge } }

-- no fault with these two in place of the collections' names, and of what the second holds
abbrev Passes : Held → Held → List ℕ → List ℕ → Bool → Type 0
Passes users knows first second edge =
    first_fault (called first users.info.edge users ∷ called second edge knows ∷ []) made_query ≡ None

passes : (users knows : Held) → Passes users knows (codes "users") (codes "knows") true
passes users knows = refl

pub made_has_no_fault : (users knows : Held) → users.info.name ≡ codes "users"
    → knows.info.name ≡ codes "knows" → knows.info.edge ≡ true
    → first_fault (users ∷ knows ∷ []) made_query ≡ None
made_has_no_fault users knows first second edges =
    subst (λ n. Passes users knows n knows.info.name knows.info.edge) (sym first)
    (subst (λ n. Passes users knows (codes "users") n knows.info.edge) (sym second)
    (subst (λ e. Passes users knows (codes "users") (codes "knows") e) (sym edges) (passes users knows)))
