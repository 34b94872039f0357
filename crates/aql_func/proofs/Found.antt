-- Looking a name up: the code's table has every function once, in the order of their names.
use Rattle.std.proofs.Common.{◌≡◌, ◌∙◌, refl, sym, ap, subst, ℕ, zero, suc, ◌<◌, ◌≤◌, ◌⊎◌, inl, inr, List, [], ◌∷◌, length, get_or, map, Bool, true, false, true≢false, cond, not, ◌&&◌, ◌||◌, Some, None, Result, Ok, Err, arith, add-one}
use Rattle.std.specs.Prelude.{find, bytes_eq, IsSortedBy, MatchResult}
use Rattle.std.specs.Ordering.{nat_cmp, is_lt, is_eq, ordering_index}
use Rattle.std.specs.declared.cmp.Ordering.{Ordering}
use Rattle.std.specs.declared.cmp.Ordering.TheVariants.{Less, Equal, Greater}
use Rattle.std.specs.Cmp.Lexicographic.{slice_cmp}
use Rattle.std.specs.List.{list_any, list_all}
use Rattle.std.specs.List.Sorted.{IsSearchInRange, IsBinarySearchResult, IsNonDecreasingBy}
use Rattle.std.specs.Str.{str_to_ascii_lowercase}
use Rattle.std.proofs.lemmas.Bool.{cases_lt}
use Rattle.std.proofs.lemmas.Cmp.{nat_list_cmp_total}
use Rattle.std.proofs.lemmas.List.{get_or-map}
use Rattle.std.proofs.lemmas.List.Sorted.{searchable_from_sorted}
use Rattle.std.proofs.lemmas.Map.Text.{is_eq-slice_cmp}
use lib.Pointwise.{bytes_decides}
use Rattle.aql_func.specs.declared.names.FuncName.{FuncName}
use Rattle.aql_func.specs.declared.names.FuncName.TheVariants.{IsNull}
use Rattle.aql_func.specs.declared.names.TheConstants.{FUNCTIONS}
use Rattle.aql_func.specs.Names.{signature, functions, function_named}

-- a function's name in lower case, which the table is sorted by
abbrev pub key : FuncName → List ℕ
key f = str_to_ascii_lowercase (signature f).name

abbrev has_key : List ℕ → FuncName → Bool
has_key k f = bytes_eq (key f) k

-- ---- tests of the table

abbrev is_before : FuncName → FuncName → Bool
is_before f g = is_lt (slice_cmp nat_cmp (key f) (key g))

-- no element stands after one that it comes before
abbrev rises : List FuncName → Bool
rises [] = true
rises (f ∷ []) = true
rises (f ∷ g ∷ fs) = not (is_before g f) && rises (g ∷ fs)

table_rises : rises FUNCTIONS ≡ true
table_rises = refl

table_has_all : list_all (λ f. list_any (has_key (key f)) FUNCTIONS) functions ≡ true
table_has_all = refl

names_differ : map (λ f. find (has_key (key f)) functions) FUNCTIONS ≡ map Some FUNCTIONS
names_differ = refl

-- ---- what the tests say

both : (a b : Bool) → (a && b) ≡ true → (a ≡ true) × (b ≡ true)
both true b h = (refl, h)
both false b h = absurd (true≢false (sym h))

one : (a b : Bool) → (a || b) ≡ true → (a ≡ true) ⊎ (b ≡ true)
one true b h = inl refl
one false b h = inr h

not_false : (a : Bool) → not a ≡ true → a ≡ false
not_false true h = absurd (true≢false (sym h))
not_false false h = refl

sorted : (fs : List FuncName) → rises fs ≡ true → IsSortedBy is_before fs
sorted [] h k d low high = absurd (omega arith)
sorted (f ∷ []) h k d low high = absurd (omega arith)
sorted (f ∷ g ∷ fs) h zero d low high = not_false (is_before g f) (both _ _ h).0
sorted (f ∷ g ∷ fs) h (suc k) d low high =
    subst (λ (n : ℕ). is_before (get_or (f ∷ g ∷ fs) n d) (get_or (f ∷ g ∷ fs) (suc k) d) ≡ false)
    (sym (add-one (suc k)))
    (subst (λ (n : ℕ). is_before (get_or (g ∷ fs) n d) (get_or (g ∷ fs) k d) ≡ false) (add-one k)
    (sorted (g ∷ fs) (both _ _ h).1 k d (omega arith) (omega arith)))

searchable : (k : List ℕ) → IsNonDecreasingBy (λ f. ordering_index (slice_cmp nat_cmp (key f) k)) FUNCTIONS
searchable k = searchable_from_sorted nat_list_cmp_total key FUNCTIONS k (sorted FUNCTIONS table_rises)

place_of : (p : FuncName → Bool) (fs : List FuncName) → list_any p fs ≡ true
    → (k : ℕ) × (k < length fs) × ((d : FuncName) → p (get_or fs k d) ≡ true)
place_of p [] h = absurd (true≢false (sym h))
place_of p (f ∷ fs) h = elim (one (p f) (list_any p fs) h) [
  | inl e ↦ (0, omega arith, λ d. e)
  | inr e ↦ let r = place_of p fs e in (suc r.0, omega (arith, r.1), r.2)
]

none_found : (p : FuncName → Bool) (fs : List FuncName)
    → ((f : FuncName) → list_any (has_key (key f)) FUNCTIONS ≡ true → p f ≡ false)
    → list_all (λ f. list_any (has_key (key f)) FUNCTIONS) fs ≡ true → find p fs ≡ None
none_found p [] h k = refl
none_found p (f ∷ fs) h k =
    let b = both (list_any (has_key (key f)) FUNCTIONS) _ k in
    subst (λ (c : Bool). cond c (Some f) (find p fs) ≡ None) (sym (h f b.0)) (none_found p fs h b.1)

-- ---- the search

equal_keys : (f : FuncName) (k : List ℕ) → slice_cmp nat_cmp (key f) k ≡ Equal → key f ≡ k
equal_keys f k e = (bytes_decides (key f) k).0 (sym (is_eq-slice_cmp (key f) k) ∙ ap is_eq e)

found : (name : List ℕ) (place : ℕ) → place < length FUNCTIONS
    → ((d : FuncName) → slice_cmp nat_cmp (key (get_or FUNCTIONS place d)) (str_to_ascii_lowercase name)
    ≡ Equal)
    → (d : FuncName) → Some (get_or FUNCTIONS place d) ≡ function_named name
found name place in_range equal d =
    let f = get_or FUNCTIONS place d in
    let by_name = λ (g : FuncName). find (has_key (key g)) functions in
    let is : by_name f ≡ Some f = sym (get_or-map by_name FUNCTIONS place d None in_range)
    ∙ ap (λ fs. get_or fs place None) names_differ ∙ get_or-map Some FUNCTIONS place d None in_range in
    sym is ∙ ap (λ k. find (has_key k) functions) (equal_keys f (str_to_ascii_lowercase name) (equal d))

not_found : (name : List ℕ) (place : ℕ)
    → ((k : ℕ) (d : FuncName) → 0 ≤ k → k < place
    → slice_cmp nat_cmp (key (get_or FUNCTIONS k d)) (str_to_ascii_lowercase name) ≡ Less)
    → ((k : ℕ) (d : FuncName) → place ≤ k → k < length FUNCTIONS
    → slice_cmp nat_cmp (key (get_or FUNCTIONS k d)) (str_to_ascii_lowercase name) ≡ Greater)
    → None ≡ function_named name
not_found name place below above =
    sym (none_found (has_key (str_to_ascii_lowercase name)) functions none table_has_all)
  where
    lower : List ℕ
    lower = str_to_ascii_lowercase name

    misses : (f : FuncName) (o : Ordering) → slice_cmp nat_cmp (key f) lower ≡ o → is_eq o ≡ false
        → has_key lower f ≡ true → ⊥
    misses f o e n h = true≢false (sym h ∙ sym (is_eq-slice_cmp (key f) lower) ∙ ap is_eq e ∙ n)

    by_place : (k : ℕ) → k < length FUNCTIONS → has_key lower (get_or FUNCTIONS k IsNull) ≡ true → ⊥
    by_place k in_range h = elim (cases_lt k place) [
      | inl l ↦ misses _ Less (below k IsNull (omega arith) l) refl h
      | inr l ↦ misses _ Greater (above k IsNull l in_range) refl h
    ]

    by_key : (f : FuncName) → list_any (has_key (key f)) FUNCTIONS ≡ true → (b : Bool) → has_key lower f ≡ b
        → b ≡ false
    by_key f h true e =
        let r = place_of (has_key (key f)) FUNCTIONS h in
        let same = (bytes_decides (key f) lower).0 e in
        absurd (by_place r.0 r.1 (subst (λ k. has_key k (get_or FUNCTIONS r.0 IsNull) ≡ true) same
        (r.2 IsNull)))
    by_key f h false e = refl

    none : (f : FuncName) → list_any (has_key (key f)) FUNCTIONS ≡ true → has_key lower f ≡ false
    none f h = by_key f h (has_key lower f) refl

-- what a binary search of the table by a name says
pub searched : (name : List ℕ) (r : Result ℕ ℕ) → IsSearchInRange r (length FUNCTIONS)
    → IsBinarySearchResult (λ f. slice_cmp nat_cmp (key f) (str_to_ascii_lowercase name)) FUNCTIONS r
    → MatchResult r (λ place. (d : FuncName) → Some (get_or FUNCTIONS place d) ≡ function_named name)
    (λ _. None ≡ function_named name)
searched name (Ok place) in_range equal = found name place in_range equal
searched name (Err place) in_range parted =
    let parts = parted (searchable (str_to_ascii_lowercase name)) in
    not_found name place parts.0 parts.1
