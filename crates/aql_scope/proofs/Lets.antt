-- What the LETs of the lifted subqueries do to a row.
use Rattle.std.proofs.Common.{◌≡◌, ◌∙◌, ℕ, suc, ◌<◌, ◌≤◌, List, [], ◌∷◌, ◌++◌, refl, ap, sym, subst, arith}
use Rattle.std.specs.Prelude.{Some}
use Rattle.std.specs.List.{AllZip}
use Rattle.aql_value.specs.Datum.{Datum, null}
use Rattle.aql_value.specs.Contents.{list}
use Rattle.aql_value.specs.Database.{Database}
use Rattle.aql_tree.specs.declared.syntax.Ident.{Ident}
use Rattle.aql_tree.specs.declared.syntax.Ident.TheVariants.{Num}
use Rattle.aql_tree.specs.Tree.{subquery, ClauseTrees, no_clauses, clause_then}
use Rattle.aql_meaning.specs.Row.{Row, bind}
use Rattle.aql_meaning.specs.Clauses.{with_values}
use Rattle.aql_meaning.specs.Meaning.{Evaluates, Through, IsAnswer}
use Rattle.aql_scope.specs.Numbering.{Numbering}
use Rattle.aql_scope.specs.Lifting.{NumberedSubquery, with_lets, append_clauses}
use Rattle.aql_scope.specs.laws.Alike.{Alike, Below, below_more, alike_more, bind_at, bind_self}
use Rattle.aql_scope.specs.laws.Walk.{Within, Walked, walked_le}
use Rattle.aql_scope.proofs.Lists.{zip_join}

module _ (db : Database) where
  -- t is s with an answer of each
  abbrev pub Ran : List NumberedSubquery → Row → Row → Type 0
  Ran [] s t = t ≡ s
  Ran (u ∷ us) s t = (vs : List Datum) × IsAnswer db u.1 s vs × Ran us (bind (Num u.0) s (list vs)) t

  -- t has an answer of this one, at some row that is like r
  abbrev pub HeldOne : NumberedSubquery → Numbering → Row → Row → Type 0
  HeldOne u names t r = (vs : List Datum) × (s : Row)
      × Alike names s r × IsAnswer db u.1 s vs × (t (Num u.0) ≡ Some (list vs))

  abbrev pub Held : List NumberedSubquery → Numbering → Row → Row → Type 0
  Held [] names t r = Unit {0}
  Held (u ∷ us) names t r = HeldOne u names t r × Held us names t r

  held_split : (us ws : List NumberedSubquery) (names : Numbering) (t r : Row) → Held (us ++ ws) names t r
      → Held us names t r × Held ws names t r
  held_split [] ws names t r h = (tt, h)
  held_split (u ∷ us) ws names t r h = let k = held_split us ws names t r h.1 in ((h.0, k.0), k.1)

  -- t is like r and has an answer of each, before the part whose first number is n
  pub record Here (names : Numbering) (n : ℕ) (us : List NumberedSubquery) (t r : Row) : Type 0 where
    pub below : Below n names
    pub alike : Alike names t r
    pub held : Held us names t r

  -- before a part, and behind it
  pub here_split : {H R U : Type 0} {names : Numbering} {n m : ℕ} {us ws : List NumberedSubquery}
      {said : List (List ℕ)} {t r : Row} → Walked H n R U us said m → Here names n (us ++ ws) t r
      → Here names n us t r × Here names m ws t r
  here_split {names = names} {n = n} {m = m} {us = us} {ws = ws} {t = t} {r = r} w h =
      let k = held_split us ws names t r h.held in (
        record { below = h.below; alike = h.alike; held = k.0 },
        record { below = below_more n m names (walked_le w) h.below; alike = h.alike; held = k.1 },
      )

  -- behind declared variables
  pub here_later : {names : Numbering} {n m : ℕ} {us : List NumberedSubquery} {t r : Row} → n ≤ m
      → Here names n us t r → Here names m us t r
  here_later {names} {n} {m} l h =
      record { below = below_more n m names l h.below; alike = h.alike; held = h.held }

  pub here_next : {names : Numbering} {n : ℕ} {us : List NumberedSubquery} {t r : Row} → Here names n us t r
      → Here names (suc n) us t r
  here_next h = here_later (omega arith) h

  ran_keeps : (us : List NumberedSubquery) (n m k : ℕ) (s t : Row) → Within n us m → k < n → Ran us s t
      → t (Num k) ≡ s (Num k)
  ran_keeps [] n m k s t w l h = ap (λ (f : Row). f (Num k)) h
  ran_keeps (u ∷ us) n m k s t w l h =
      let j = w.0 in
      ran_keeps us (suc u.0) m k (bind (Num u.0) s (list h.0)) t w.1 (omega arith) h.2
      ∙ bind_at u.0 k s (list h.0) (omega arith)

  ran_fits : (us : List NumberedSubquery) (names : Numbering) (n m : ℕ) (s t r : Row) → Below n names
      → Within n us m → Alike names s r → Ran us s t → Alike names t r × Held us names t r
  ran_fits [] names n m s t r b w a h = (subst (λ (f : Row). Alike names f r) (sym h) a, tt)
  ran_fits (u ∷ us) names n m s t r b w a h =
      let j = w.0 in
      let mid = bind (Num u.0) s (list h.0) in
      let more = alike_more names u.0 s r (list h.0) (below_more n u.0 names j b) a in
      let k = ran_fits us names (suc u.0) m mid t r (below_more n (suc u.0) names (omega arith) b) w.1
      more h.2 in
      let kept = ran_keeps us (suc u.0) m u.0 mid t w.1 (omega arith) h.2 in
      (k.0, ((h.0, s, a, h.1, kept ∙ bind_self u.0 s (list h.0)), k.1))

  -- rows after the LETs beside those that the rows before them are like
  pub rans_fit : {H R U : Type 0} {n m : ℕ} {us : List NumberedSubquery} {said : List (List ℕ)}
      (names : Numbering) (ss ts rs : List Row) → Below n names → Walked H n R U us said m
      → AllZip (Ran us) ss ts → AllZip (Alike names) ss rs → AllZip (Here names n us) ts rs
  rans_fit {n = n} {m = m} {us = us} names ss ts rs b w h a =
      zip_join (Ran us) (Alike names) (Here names n us) (λ s t r g i.
      let k = ran_fits us names n m s t r b w.within i g in
      record { below = b; alike = k.0; held = k.1 }) ss ts rs h a

  ran_none : (rows : List Row) → AllZip (Ran []) rows rows
  ran_none [] = tt
  ran_none (s ∷ rows) = (refl, ran_none rows)

  ran_first : (u : NumberedSubquery) (us : List NumberedSubquery) (rows : List Row) (vs : List Datum)
      (mids : List Row)
      → AllZip (Evaluates db (subquery u.1) null) rows vs
      → AllZip (Ran us) (with_values (Num u.0) rows vs) mids
      → AllZip (Ran (u ∷ us)) rows mids
  ran_first u us [] [] [] h k = tt
  ran_first u us [] [] (t ∷ mids) h k = absurd k
  ran_first u us [] (v ∷ vs) mids h k = absurd h
  ran_first u us (s ∷ rows) [] mids h k = absurd h
  ran_first u us (s ∷ rows) (v ∷ vs) [] h k = absurd k
  ran_first u us (s ∷ rows) (v ∷ vs) (t ∷ mids) h k = (
    (h.0.0, h.0.1, subst (λ (w : Datum). Ran us (bind (Num u.0) s w) t) h.0.2 k.0),
    ran_first u us rows vs mids h.1 k.1,
  )

  -- the rows after the LETs
  pub through_lets : (us : List NumberedSubquery) (cs : ClauseTrees) (start : Row) (vars : List Ident)
      (rows out : List Row) → Through db (with_lets us cs) start vars rows out
      → (behind : List Ident) × (mids : List Row) × AllZip (Ran us) rows mids
      × Through db cs start behind mids out
  through_lets [] cs start vars rows out h = (vars, rows, ran_none rows, h)
  through_lets (u ∷ us) cs start vars rows out h =
      let vs = h.1.0 in
      let k = through_lets us cs start (Num u.0 ∷ vars) (with_values (Num u.0) rows vs) out
      (subst (λ (mid : List Row). Through db (with_lets us cs) start (Num u.0 ∷ vars) mid out) h.1.2 h.2) in
      (k.0, k.1, ran_first u us rows vs k.1 h.1.1 k.2, k.3)

  pub through_followed : (cs ds : ClauseTrees) (start : Row) (vars : List Ident) (rows out : List Row)
      → Through db (append_clauses cs ds) start vars rows out
      → (behind : List Ident) × (mid : List Row) × Through db cs start vars rows mid
      × Through db ds start behind mid out
  through_followed no_clauses ds start vars rows out h = (vars, rows, refl, h)
  through_followed (clause_then c cs) ds start vars rows out h =
      let k = through_followed cs ds start _ h.0 out h.2 in
      (k.0, k.1, (h.0, h.1, k.2), k.3)
