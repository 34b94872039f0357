-- The accumulators of a group: a list of them as it is made, as each takes a member, and as each is finished.
use Rattle.std.proofs.Common.{◌≡◌, ℕ, zero, suc, ◌+◌, ◌<◌, ◌⊎◌, inl, inr, List, [], ◌∷◌, ◌++◌, length, drop, set, get_or, Bool, true, false, cond, Some, refl, sym, ap, ◌∙◌, subst, append_assoc, add-one, length-append, length-drop, arith}
use Rattle.std.specs.Prelude.{slice_get, nat_lt, ◌≤◌, MatchOption}
use Rattle.std.proofs.lemmas.List.{append-nil, nil_from_length}
use Rattle.aql_value.specs.declared.values.Value.{Value}
use Rattle.aql_value.specs.Datum.{Datum}
use Rattle.aql_value.specs.View.{datum_of, datums_in}
use Rattle.aql_func.specs.Arguments.{argument}
use Rattle.aql_meaning.specs.Groups.{GroupedRow, aggregate_values}
use Rattle.aql_aggregate.specs.declared.staged.StagedKind.{StagedKind}
use Rattle.aql_aggregate.specs.declared.staged.StagedAccumulator.{StagedAccumulator}
use Rattle.aql_aggregate.specs.Staged.{Staged, staged, made, KeepsIn}
use Rattle.aql_exec_rows.specs.GroupStates.{AccumulatesAt, AllAccumulate, arguments_of, functions_of}

-- ---- one more accumulator

found_push : {X : Type 0} (xs : List X) (x y : X) (n : ℕ) → slice_get (xs ++ x ∷ []) n ≡ Some y
    → (slice_get xs n ≡ Some y) ⊎ ((n ≡ length xs) × (y ≡ x))
found_push [] x y zero e = inr (refl, (cc))
found_push [] x y (suc n) e = absurd (cc)
found_push (z ∷ zs) x y zero e = inl e
found_push (z ∷ zs) x y (suc n) e = by (found_push zs x y n e)
  where
    by : (slice_get zs n ≡ Some y) ⊎ ((n ≡ length zs) × (y ≡ x))
        → (slice_get zs n ≡ Some y) ⊎ ((suc n ≡ suc (length zs)) × (y ≡ x))
    by (inl e) = inl e
    by (inr e) = inr (ap suc e.0, e.1)

kept_longer : (accs more : List StagedAccumulator) (n : ℕ) (kind : Staged) (ts : List Datum)
    → AccumulatesAt accs n kind ts → AccumulatesAt (accs ++ more) n kind ts
kept_longer [] more n kind ts h = absurd h
kept_longer (a ∷ accs) more zero kind ts h = h
kept_longer (a ∷ accs) more (suc n) kind ts h = kept_longer accs more n kind ts h

kept_last : (accs : List StagedAccumulator) (a : StagedAccumulator) (kind : Staged) (ts : List Datum)
    → KeepsIn a kind ts → AccumulatesAt (accs ++ a ∷ []) (length accs) kind ts
kept_last [] a kind ts h = h
kept_last (b ∷ accs) a kind ts h = kept_last accs a kind ts h

pub kept_push : (kinds : List StagedKind) (accs : List StagedAccumulator) (k : StagedKind)
    (a : StagedAccumulator) → length accs ≡ length kinds → KeepsIn a (staged k) []
    → AllAccumulate kinds accs []
    → AllAccumulate (kinds ++ k ∷ []) (accs ++ a ∷ []) []
kept_push kinds accs k a l h kept n kind e = by (found_push kinds k kind n e)
  where
    by : (slice_get kinds n ≡ Some kind) ⊎ ((n ≡ length kinds) × (kind ≡ k))
        → AccumulatesAt (accs ++ a ∷ []) n (staged kind) []
    by (inl e) = kept_longer accs (a ∷ []) n (staged kind) [] (kept n kind e)
    by (inr e) = subst (λ n. AccumulatesAt (accs ++ a ∷ []) n (staged kind) []) (l ∙ sym e.0)
        (subst (λ k. AccumulatesAt (accs ++ a ∷ []) (length accs) (staged k) []) (sym e.1)
        (kept_last accs a (staged k) [] h))

pub none_kept : (accs : List StagedAccumulator) → AllAccumulate [] accs []
none_kept accs n kind e = absurd (cc)

-- ---- one member more

kept_here : (accs : List StagedAccumulator) (i : ℕ) (a : StagedAccumulator) (kind : Staged) (ts : List Datum)
    → a ≡ get_or accs i a → AccumulatesAt accs i kind ts → KeepsIn a kind ts
kept_here [] i a kind ts e h = absurd h
kept_here (b ∷ accs) zero a kind ts e h = subst (λ a. KeepsIn a kind ts) (sym e) h
kept_here (b ∷ accs) (suc i) a kind ts e h = kept_here accs i a kind ts e h

set_here : (accs : List StagedAccumulator) (i : ℕ) (a : StagedAccumulator) (kind : Staged) (ts : List Datum)
    → i < length accs → KeepsIn a kind ts → AccumulatesAt (set accs i a) i kind ts
set_here [] i a kind ts l h = absurd (omega (arith, l))
set_here (b ∷ accs) zero a kind ts l h = h
set_here (b ∷ accs) (suc i) a kind ts l h = set_here accs i a kind ts (omega (arith, l)) h

set_beside : (accs : List StagedAccumulator) (i n : ℕ) (a : StagedAccumulator) (kind : Staged) (ts : List Datum)
    → (n ≡ i → ⊥) → AccumulatesAt accs n kind ts → AccumulatesAt (set accs i a) n kind ts
set_beside [] i n a kind ts d h = absurd h
set_beside (b ∷ accs) zero zero a kind ts d h = absurd (d refl)
set_beside (b ∷ accs) zero (suc n) a kind ts d h = h
set_beside (b ∷ accs) (suc i) zero a kind ts d h = h
set_beside (b ∷ accs) (suc i) (suc n) a kind ts d h =
    set_beside accs i n a kind ts (λ e. d (ap suc e)) h

same_or_not : (n i : ℕ) → (n ≡ i) ⊎ (n ≡ i → ⊥)
same_or_not zero zero = inl refl
same_or_not zero (suc i) = inr (λ e. omega (arith, e))
same_or_not (suc n) zero = inr (λ e. omega (arith, e))
same_or_not (suc n) (suc i) = by (same_or_not n i)
  where
    by : (n ≡ i) ⊎ (n ≡ i → ⊥) → (suc n ≡ suc i) ⊎ (suc n ≡ suc i → ⊥)
    by (inl e) = inl (ap suc e)
    by (inr d) = inr (λ e. d (omega (arith, e)))

-- the members that the accumulator at a place has, where the first i took one more
abbrev pub with_first : ℕ → List Datum → ℕ → List Datum → List Datum
with_first i vs n ts = cond (nat_lt n i) (ts ++ argument vs n ∷ []) ts

abbrev pub Taking : ℕ → List Datum → List StagedAccumulator → List StagedAccumulator → Type 0
Taking i vs before accs = (n : ℕ) (kind : Staged) (ts : List Datum) → AccumulatesAt before n kind ts
    → AccumulatesAt accs n kind (with_first i vs n ts)

pub none_taking : (vs : List Datum) (accs : List StagedAccumulator) → Taking 0 vs accs accs
none_taking vs accs n kind ts h =
    let e : nat_lt n 0 ≡ false = grind arith in
    subst (λ b. AccumulatesAt accs n kind (cond b (ts ++ argument vs n ∷ []) ts)) (sym e) h

further : (n i : ℕ) → (n ≡ i → ⊥) → nat_lt n (i + 1) ≡ nat_lt n i
further n i d = by (nat_lt n i) refl
  where
    by : (b : Bool) → nat_lt n i ≡ b → nat_lt n (i + 1) ≡ b
    by true e = grind (arith, e)
    by false e = grind (arith, e, d)

pub one_taking : (vs : List Datum) (before accs : List StagedAccumulator) (i : ℕ) (a a' : StagedAccumulator)
    → a ≡ get_or accs i a → i < length accs
    → ((kind : Staged) (ts : List Datum) → KeepsIn a kind ts → KeepsIn a' kind (ts ++ argument vs i ∷ []))
    → Taking i vs before accs → Taking (i + 1) vs before (set accs i a')
one_taking vs before accs i a a' e l add taking n kind ts h = by (same_or_not n i)
  where
    by : (n ≡ i) ⊎ (n ≡ i → ⊥) → AccumulatesAt (set accs i a') n kind (with_first (i + 1) vs n ts)
    by (inl p) =
        let q : nat_lt n i ≡ false = grind (arith, p) in
        let r : nat_lt n (i + 1) ≡ true = grind (arith, p) in
        let k : AccumulatesAt accs n kind ts = subst
        (λ b. AccumulatesAt accs n kind (cond b (ts ++ argument vs n ∷ []) ts))
        q (taking n kind ts h) in
        let k' : AccumulatesAt (set accs i a') i kind (ts ++ argument vs i ∷ []) =
        set_here accs i a' kind (ts ++ argument vs i ∷ []) l
        (add kind ts (kept_here accs i a kind ts e (subst (λ n. AccumulatesAt accs n kind ts) p k))) in
        subst (λ b. AccumulatesAt (set accs i a') n kind (cond b (ts ++ argument vs n ∷ []) ts)) (sym r)
        (subst (λ n. AccumulatesAt (set accs i a') n kind (ts ++ argument vs n ∷ [])) (sym p) k')
    by (inr d) =
        let q : nat_lt n (i + 1) ≡ nat_lt n i = further n i d in
        subst (λ b. AccumulatesAt (set accs i a') n kind (cond b (ts ++ argument vs n ∷ []) ts)) (sym q)
        (set_beside accs i n a' kind (with_first i vs n ts) d (taking n kind ts h))

kept_within : (accs : List StagedAccumulator) (n : ℕ) (kind : Staged) (ts : List Datum) → AccumulatesAt accs n kind ts
    → n < length accs
kept_within [] n kind ts h = absurd h
kept_within (a ∷ accs) zero kind ts h = omega arith
kept_within (a ∷ accs) (suc n) kind ts h = (let l = kept_within accs n kind ts h in omega (arith, l))

pub all_taking : (vs : List Datum) (before accs : List StagedAccumulator) (i : ℕ) → length before ≡ i
    → Taking i vs before accs → (n : ℕ) (kind : Staged) (ts : List Datum) → AccumulatesAt before n kind ts
    → AccumulatesAt accs n kind (ts ++ argument vs n ∷ [])
all_taking vs before accs i l taking n kind ts h =
    let w = kept_within before n kind ts h in
    let e : nat_lt n i ≡ true = grind (arith, w, l) in
    subst (λ b. AccumulatesAt accs n kind (cond b (ts ++ argument vs n ∷ []) ts)) e (taking n kind ts h)

-- ---- values

-- with the values of the aggregates that are left the values so far are all
abbrev pub Values : List Datum → List StagedKind → List GroupedRow → Type 0
Values values kinds members =
    values ++ aggregate_values (functions_of (drop (length values) kinds)) (length values) members
    ≡ aggregate_values (functions_of kinds) 0 members

pub no_values : (kinds : List StagedKind) (members : List GroupedRow) → Values [] kinds members
no_values kinds members = refl

first_left : {X : Type 0} (xs : List X) (k : ℕ) (x : X) (rest : List X) → drop k xs ≡ x ∷ rest
    → (slice_get xs k ≡ Some x) × (drop (suc k) xs ≡ rest) × (k < length xs)
first_left [] zero x rest e = absurd (cc)
first_left [] (suc k) x rest e = absurd (cc)
first_left (y ∷ ys) zero x rest e = ((cc), (cc), omega arith)
first_left (y ∷ ys) (suc k) x rest e =
    (let h = first_left ys k x rest e in (h.0, h.1, (let l = h.2 in omega (arith, l))))

none_left : {X : Type 0} (xs : List X) (k : ℕ) → drop k xs ≡ [] → length xs ≤ k
none_left xs k e = (let n = length-drop k xs in let m = ap length e in omega (arith, n, m))

pub value_more : (all : List StagedAccumulator) (values : List Datum) (a : StagedAccumulator) (v : Datum)
    (left : List StagedAccumulator) → drop (length values) all ≡ a ∷ left
    → ((kind : Staged) (ts : List Datum) → KeepsIn a kind ts → v ≡ made kind ts)
    → (kinds : List StagedKind) (members : List GroupedRow) → AllAccumulate kinds all members
    → length all ≡ length kinds → Values values kinds members → Values (values ++ v ∷ []) kinds members
value_more all values a v left e f kinds members kept l h = by (drop (length values) kinds) refl
  where
    by : (ks : List StagedKind) → drop (length values) kinds ≡ ks → Values (values ++ v ∷ []) kinds members
    by [] p =
        let n = none_left kinds (length values) p in
        let m = (first_left all (length values) a left e).2 in
        absurd (omega (arith, n, m, l))
    by (kind ∷ ks) p =
        let k = length values in
        let all_at = first_left all k a left e in
        let kinds_at = first_left kinds k kind ks p in
        let keeps : KeepsIn a (staged kind) (arguments_of k members) =
        subst (λ o. MatchOption o ⊥ (λ a. KeepsIn a (staged kind) (arguments_of k members))) all_at.0
        (kept k kind kinds_at.0) in
        let is = f (staged kind) (arguments_of k members) keeps in
        let longer : length (values ++ v ∷ []) ≡ suc k = length-append values (v ∷ []) ∙ add-one k in
        let one : aggregate_values (functions_of (drop k kinds)) k members
        ≡ v ∷ aggregate_values (functions_of ks) (k + 1) members =
        ap (λ ks. aggregate_values (functions_of ks) k members) p
        ∙ ap (λ v. v ∷ aggregate_values (functions_of ks) (k + 1) members) (sym is) in
        ap (λ n. (values ++ v ∷ []) ++ aggregate_values (functions_of (drop n kinds)) n members) longer
        ∙ ap (λ ks. (values ++ v ∷ []) ++ aggregate_values (functions_of ks) (suc k) members) kinds_at.1
        ∙ ap (λ n. (values ++ v ∷ []) ++ aggregate_values (functions_of ks) n members) (sym (add-one k))
        ∙ append_assoc values (v ∷ []) (aggregate_values (functions_of ks) (k + 1) members)
        ∙ ap (λ vs. values ++ vs) (sym one) ∙ h

pub values_done : (all : List StagedAccumulator) (values : List Datum) (kinds : List StagedKind)
    (members : List GroupedRow) → drop (length values) all ≡ [] → length all ≡ length kinds
    → Values values kinds members → values ≡ aggregate_values (functions_of kinds) 0 members
values_done all values kinds members e l h =
    let n = none_left all (length values) e in
    let d = length-drop (length values) kinds in
    let none : drop (length values) kinds ≡ [] = nil_from_length _ (omega (arith, n, l, d)) in
    sym (append-nil values)
    ∙ sym (ap (λ ks. values ++ aggregate_values (functions_of ks) (length values) members) none) ∙ h

-- one accumulator less is left
pub next_left : (all : List StagedAccumulator) (values : List Datum) (a : StagedAccumulator) (v : Datum)
    (left : List StagedAccumulator) → drop (length values) all ≡ a ∷ left
    → drop (length (values ++ v ∷ [])) all ≡ left
next_left all values a v left e =
    ap (λ n. drop n all) (length-append values (v ∷ []) ∙ add-one (length values))
    ∙ (first_left all (length values) a left e).1

-- the argument at a place
pub argument_at : (vs : List Value) (i : ℕ) (v : Value) → v ≡ get_or vs i v → i < length vs
    → argument (datums_in vs) i ≡ datum_of v
argument_at [] i v e l = absurd (omega (arith, l))
argument_at (w ∷ vs) zero v e l = ap datum_of (sym e)
argument_at (w ∷ vs) (suc i) v e l = argument_at vs i v e (omega (arith, l))
