-- Entries in three parts, below some bounds, within them and above them: the span of the middle part.
use Rattle.std.proofs.Common.{◌≡◌, ◌∙◌, ◌≤◌, ◌<◌, ◌+◌, ◌-◌, ℕ, zero, suc, List, [], ◌∷◌, ◌++◌, length, take, drop, get_or, Bool, true, false, cond, not, ◌&&◌, nat_lt, ltb-true, ltb-false, refl, sym, ap, ap₂, arith, true≢false, inl, inr, ◌⊎◌}
use Rattle.std.specs.List.{filter}
use Rattle.std.specs.List.Sorted.{IsPartitionedBy, IsPartitionPoint}
use Rattle.std.specs.Ordering.{is_lt, is_le, is_eq, ordering_index}
use Rattle.std.specs.declared.cmp.Ordering.{Ordering}
use Rattle.std.specs.declared.cmp.Ordering.TheVariants.{Less, Equal, Greater}
use Rattle.std.proofs.lemmas.List.{length-drop, get_or-drop}
use Rattle.std.proofs.lemmas.List.Edits.{length-between, get_or-between}
use Rattle.std.specs.List.{between}
use Rattle.std.proofs.lemmas.Bool.{cases_lt}
use Rattle.aql_value.specs.Datum.{Datum}
use Rattle.aql_index.specs.declared.bounds.Span.{Span}
use Rattle.aql_index.specs.declared.entries.Entry.{Entry}
use Rattle.aql_index.specs.Spans.{spanned, IsSpan}
use Rattle.aql_index.specs.inner.Places.{holds, no_entry, Selects}

-- none of the first pass
pub passed : {X : Type 0} (p : X → Bool) (xs : List X) (from : ℕ)
    → ((k : ℕ) (d : X) → k < from → k < length xs → p (get_or xs k d) ≡ false)
    → filter p xs ≡ filter p (drop from xs)
passed p xs zero h = refl
passed p [] (suc from) h = refl
passed p (x ∷ xs) (suc from) h =
    ap (λ b. cond b (x ∷ filter p xs) (filter p xs)) (h 0 x (omega arith) (omega arith))
    ∙ passed p xs from (λ k d l m. h (suc k) d (omega (arith, l)) (omega (arith, m)))

-- the first pass, and none after them
kept : {X : Type 0} (p : X → Bool) (xs : List X) (to : ℕ)
    → ((k : ℕ) (d : X) → k < to → k < length xs → p (get_or xs k d) ≡ true)
    → ((k : ℕ) (d : X) → to ≤ k → k < length xs → p (get_or xs k d) ≡ false)
    → take to xs ≡ filter p xs
kept p [] zero t f = refl
kept p [] (suc to) t f = refl
kept p (x ∷ xs) zero t f =
    kept p xs zero (λ k d l m. absurd (omega (arith, l)))
    (λ k d l m. f (suc k) d (omega arith) (omega (arith, m)))
    ∙ sym (ap (λ b. cond b (x ∷ filter p xs) (filter p xs)) (f 0 x (omega arith) (omega arith)))
kept p (x ∷ xs) (suc to) t f =
    ap (λ ys. x ∷ ys) (kept p xs to (λ k d l m. t (suc k) d (omega (arith, l)) (omega (arith, m)))
    (λ k d l m. f (suc k) d (omega (arith, l)) (omega (arith, m))))
    ∙ sym (ap (λ b. cond b (x ∷ filter p xs) (filter p xs)) (t 0 x (omega arith) (omega arith)))

-- the first pass, and then those that do
pub front_kept : {X : Type 0} (p : X → Bool) (xs : List X) (to : ℕ)
    → ((k : ℕ) (d : X) → k < to → k < length xs → p (get_or xs k d) ≡ true)
    → filter p xs ≡ take to xs ++ filter p (drop to xs)
front_kept p xs zero t = refl
front_kept p [] (suc to) t = refl
front_kept p (x ∷ xs) (suc to) t =
    ap (λ b. cond b (x ∷ filter p xs) (filter p xs)) (t 0 x (omega arith) (omega arith))
    ∙ ap (λ ys. x ∷ ys) (front_kept p xs to (λ k d l m. t (suc k) d (omega (arith, l)) (omega (arith, m))))

-- ---- a list along which answers don't fall

lt_down : (o q : Ordering) → ordering_index o ≤ ordering_index q → is_lt q ≡ true → is_lt o ≡ true
lt_down Less q h e = refl
lt_down Equal Less h e = absurd (omega (arith, h))
lt_down Equal Equal h e = e
lt_down Equal Greater h e = e
lt_down Greater Less h e = absurd (omega (arith, h))
lt_down Greater Equal h e = e
lt_down Greater Greater h e = e

le_down : (o q : Ordering) → ordering_index o ≤ ordering_index q → is_le q ≡ true → is_le o ≡ true
le_down Less q h e = refl
le_down Equal q h e = refl
le_down Greater Less h e = absurd (omega (arith, h))
le_down Greater Equal h e = absurd (omega (arith, h))
le_down Greater Greater h e = e

low_not : (o : Ordering) → is_lt o ≡ true → is_eq o ≡ false
low_not Less e = refl
low_not Equal e = sym e
low_not Greater e = refl

mid_is : (o : Ordering) → is_lt o ≡ false → is_le o ≡ true → is_eq o ≡ true
mid_is Less e f = absurd (true≢false e)
mid_is Equal e f = refl
mid_is Greater e f = f

high_not : (o : Ordering) → is_le o ≡ false → is_eq o ≡ false
high_not Less e = refl
high_not Equal e = e
high_not Greater e = refl

pub low_is_up : (o : Ordering) → is_lt o ≡ true → is_le o ≡ true
low_is_up Less e = refl
low_is_up Equal e = refl
low_is_up Greater e = e

not_both : (o : Ordering) → is_lt o ≡ true → is_le o ≡ false → ⊥
not_both Less e f = true≢false f
not_both Equal e f = true≢false (sym e)
not_both Greater e f = true≢false (sym e)

module _ (zone : List Datum → Ordering) (entries : List Entry)
    (up : (i j : ℕ) (d : Entry) → i ≤ j → j < length entries
    → ordering_index (zone (get_or entries i d).keys) ≤ ordering_index (zone (get_or entries j d).keys)) where
  pub lower_part : IsPartitionedBy (λ (e : Entry). is_lt (zone e.keys)) entries
  lower_part = λ i j d l m e. lt_down _ _ (up i j d l m) e

  pub upper_part : IsPartitionedBy (λ (e : Entry). is_le (zone e.keys)) entries
  upper_part = λ i j d l m e. le_down _ _ (up i j d l m) e

  module _ (from to : ℕ) (few : from ≤ length entries) (ends : to ≤ length entries)
      (low : IsPartitionPoint (λ (e : Entry). is_lt (zone e.keys) ≡ true)
      (λ (e : Entry). is_lt (zone e.keys) ≡ false) entries from)
      (high : IsPartitionPoint (λ (e : Entry). is_le (zone e.keys) ≡ true)
      (λ (e : Entry). is_le (zone e.keys) ≡ false) entries to) where
    abbrev span : Span
    span = record { from = from; to = to }

    in_list : (to < from) ⊎ (from ≤ to) → IsSpan (length entries) span
    in_list (inl l) = absurd (not_both (zone (get_or entries to no_entry).keys)
        (low.0 to no_entry (omega arith) l) (high.1 to no_entry (omega arith) (omega (arith, l, few))))
    in_list (inr h) = (h, ends)

    these : spanned entries span ≡ filter (λ (e : Entry). is_eq (zone e.keys)) entries
    these =
        let p = λ (e : Entry). is_eq (zone e.keys) in
        kept p (drop from entries) (to - from)
        (λ k d l m. ap p (get_or-drop from entries k d)
        ∙ mid_is _ (low.1 (from + k) d (omega arith) (omega (arith, m, length-drop from entries)))
        (high.0 (from + k) d (omega arith) (omega (arith, l))))
        (λ k d l m. ap p (get_or-drop from entries k d)
        ∙ high_not _ (high.1 (from + k) d (omega (arith, l)) (omega (arith, m, length-drop from entries))))
        ∙ sym (passed p entries from (λ k d l m. low_not _ (low.0 k d (omega arith) l)))

    each : (k : ℕ) (d : Entry) → k < length entries → holds k span ≡ is_eq (zone (get_or entries k d).keys)
    each k d l = by (nat_lt k to) (nat_lt k from) refl refl
      where
        by : (b c : Bool) → nat_lt k to ≡ b → nat_lt k from ≡ c
            → nat_lt k to && not (nat_lt k from) ≡ is_eq (zone (get_or entries k d).keys)
        by true true e f = ap₂ (λ x y. x && not y) e f
            ∙ sym (low_not _ (low.0 k d (omega arith) (omega (arith, ltb-true k from f))))
        by true false e f = ap₂ (λ x y. x && not y) e f
            ∙ sym (mid_is _ (low.1 k d (omega (arith, ltb-false k from f)) l)
            (high.0 k d (omega arith) (omega (arith, ltb-true k to e))))
        by false c e f = ap (λ x. x && not (nat_lt k from)) e
            ∙ sym (high_not _ (high.1 k d (omega (arith, ltb-false k to e)) l))

    -- from the first that is not below the bounds up to the first above them
    pub selects : Selects entries (λ keys. is_eq (zone keys)) span
    selects = record { within = in_list (cases_lt to from); exactly = these; each = each }

-- A list whose first elements pass, and none behind another place: where those between part, it parts.
module _ {X : Type 0} (p : X → Bool) (xs : List X) (parted : IsPartitionedBy p xs) (from end : ℕ)
    (some : from ≤ end) (within : end ≤ length xs)
    (front : (k : ℕ) (d : X) → k < from → p (get_or xs k d) ≡ true)
    (above : (d : X) → end < length xs → p (get_or xs end d) ≡ false) where
  abbrev near : List X
  near = between from end xs

  pub near_parted : IsPartitionedBy p near
  near_parted i j d l m e =
      let inside : from + j < end = omega (arith, m, length-between xs from end within) in
      ap p (get_or-between xs from end i d (omega arith))
      ∙ parted (from + i) (from + j) d (omega arith) (omega arith)
      (sym (ap p (get_or-between xs from end j d inside)) ∙ e)

  beyond : (k : ℕ) (d : X) → end ≤ k → k < length xs → (b : Bool) → p (get_or xs k d) ≡ b → b ≡ false
  beyond k d l m false e = refl
  beyond k d l m true e =
      absurd (true≢false (sym (parted end k d l m e) ∙ above d (omega (arith, l, m))))

  module _ (i : ℕ) (few : i ≤ length near)
      (point : IsPartitionPoint (λ x. p x ≡ true) (λ x. p x ≡ false) near i) where
    low : (k : ℕ) (d : X) → k < from + i → (k < from) ⊎ (from ≤ k) → p (get_or xs k d) ≡ true
    low k d l (inl lt) = front k d lt
    low k d l (inr le) =
        let n = length-between xs from end within in
        let back : from + (k - from) ≡ k = omega arith in
        ap (λ n. p (get_or xs n d)) (sym back)
        ∙ sym (ap p (get_or-between xs from end (k - from) d (omega arith)))
        ∙ point.0 (k - from) d (omega arith) (omega arith)

    high : (k : ℕ) (d : X) → from + i ≤ k → k < length xs → (k < end) ⊎ (end ≤ k)
        → p (get_or xs k d) ≡ false
    high k d l m (inl lt) =
        let n = length-between xs from end within in
        let back : from + (k - from) ≡ k = omega arith in
        ap (λ n. p (get_or xs n d)) (sym back)
        ∙ sym (ap p (get_or-between xs from end (k - from) d (omega arith)))
        ∙ point.1 (k - from) d (omega arith) (omega arith)
    high k d l m (inr le) = beyond k d le m _ refl

    pub from_near : IsPartitionPoint (λ x. p x ≡ true) (λ x. p x ≡ false) xs (from + i)
    from_near = (
      λ k d l m. low k d m (cases_lt k from),
      λ k d l m. high k d l m (cases_lt k end),
    )
