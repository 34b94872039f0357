-- What servers hold: the collections of a catalog with their documents, the number of servers, where 0 is a
-- single place, and what was counted (Cluster: sharding).
use Rattle.std.specs.Prelude.{ℕ, List, refl}
use Rattle.std.specs.Coded.{Coded, code_by, coded×, coded_ℕ, coded_list}
use Rattle.aql_doc.specs.Held.{Held, coded_held}
use Rattle.aql_block.specs.declared.tally.Tally.{Tally}

pub record Holding : Type 0 where
  pub held : List Held
  pub servers : ℕ
  pub counts : Tally

-- how the logic stores them
abbrev coded_tally : Coded Tally
coded_tally = code_by (ℕ × (ℕ × ℕ)) (coded× coded_ℕ (coded× coded_ℕ coded_ℕ))
    (λ t. (t.scanned_full, (t.scanned_index, t.filtered)))
    (λ p. record { scanned_full = p.0; scanned_index = p.1.0; filtered = p.1.1 }) (λ _. refl)

abbrev pub coded_holding : Coded Holding
coded_holding = code_by (List Held × (ℕ × Tally))
    (coded× (coded_list coded_held) (coded× coded_ℕ coded_tally))
    (λ h. (h.held, (h.servers, h.counts)))
    (λ p. record { held = p.0; servers = p.1.0; counts = p.1.1 }) (λ _. refl)
