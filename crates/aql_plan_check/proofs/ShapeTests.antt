-- Tests of a list, one after another.
use Rattle.std.proofs.Common.{◌≡◌, ◌∙◌, sym, Bool, false, true≢false}
use Rattle.std.specs.Prelude.{◌↔◌, IsTrue}

-- a loop over a list: the first part holds, or doesn't
pub next : {A B W : Type 0} → (A × B) ↔ W → A → B ↔ W
next h a = ((λ b. h.0 (a, b)), (λ w. (h.1 w).1))

pub stop : {A B W : Type 0} (r : Bool) → (A × B) ↔ W → IsTrue r ↔ A → r ≡ false → IsTrue false ↔ W
stop r h k e = ((λ t. absurd (true≢false (sym t))), (λ w. absurd (true≢false (sym (k.1 (h.1 w).0) ∙ e))))
