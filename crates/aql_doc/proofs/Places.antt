-- Collections by their numbers, and how many documents they have in all.
use Rattle.std.proofs.Common.{◌≡◌, ◌<◌, ◌≤◌, ℕ, ◌+◌, suc, zero, List, [], ◌∷◌, ◌++◌, true, false, subst, Some, None, Ok, refl, sym, ap, ◌∙◌, arith, inl, inr, length, length-set, get_or, slice_get, slice_set, bytes_eq, option_map, Bool, nat_lt, if◌then◌else◌}
use Rattle.std.specs.Prelude.{Result, Err, OnOk, OnErr, IfErr, IfSome, unwrap_or, Option}
use Rattle.std.proofs.lemmas.Option.{slice_get-get_or, slice_get_cases}
use Rattle.std.specs.Borrow.{Bor}
use Rattle.aql_doc.specs.declared.info.CollInfo.{CollInfo}
use Rattle.aql_value.specs.Datum.{Datum}
use Rattle.aql_doc.specs.Held.{Held, documents_in, documents_at}
use Rattle.aql_doc.specs.Declarations.{collection_index, replace, change, are_same, has_index, with_index}
use Rattle.aql_doc.specs.Limits.{IsDeclared, IsWithinLimits, HasOneToEight, AreApart}
use Rattle.std.specs.Prelude.{All, ◌||◌}
use Rattle.std.proofs.lemmas.List.{length_push}
use Rattle.std.proofs.lemmas.List.Elements.{All-set, All-push}
use Rattle.std.proofs.lemmas.Bool.{ltb-true}
use Rattle.aql_doc.specs.declared.faults.CatalogFault.TheVariants.{TooMany}
use Rattle.aql_doc.specs.Documents.{with_document}

pub held_more : (hs : List Held) (h : Held)
    → documents_in (hs ++ h ∷ []) ≡ documents_in hs + length h.documents
held_more [] h = omega arith
held_more (g ∷ hs) h = let e = held_more hs h in omega (arith, e)

held_at : (hs : List Held) (i : ℕ) (d : Held) → i < length hs
    → length (get_or hs i d).documents ≤ documents_in hs
held_at [] i d l = omega arith
held_at (g ∷ hs) zero d l = omega arith
held_at (g ∷ hs) (suc i) d l =
    let lt : i < length hs = omega arith in let e = held_at hs i d lt in omega (arith, e)

held_set : (hs : List Held) (i : ℕ) (d h : Held) (n : ℕ) → i < length hs
    → length h.documents ≡ length (get_or hs i d).documents + n
    → documents_in (slice_set hs i h) ≡ documents_in hs + n
held_set [] i d h n l e = absurd (omega (arith, l))
held_set (g ∷ hs) zero d h n l e = omega (arith, e)
held_set (g ∷ hs) (suc i) d h n l e =
    let lt : i < length hs = omega arith in let f = held_set hs i d h n lt e in omega (arith, f)

-- the first collection of the name
pub place_here : (name : List ℕ) (hs : List Held) (i : ℕ) (d : Held) → i < length hs
    → ((k : ℕ) → k < i → bytes_eq (get_or hs k d).info.name name ≡ false)
    → bytes_eq (get_or hs i d).info.name name ≡ true → Some i ≡ collection_index hs name
place_here name [] i d l h e = absurd (omega (arith, l))
place_here name (b ∷ bs) zero d l h e = rw e refl
place_here name (b ∷ bs) (suc i) d l h e =
    let lt : i < length bs = omega arith in
    rw (h 0 (omega arith))
    (ap (option_map suc) (place_here name bs i d lt (λ k m. h (suc k) (omega arith)) e))

pub place_none : (name : List ℕ) (hs : List Held) (d : Held)
    → ((k : ℕ) → k < length hs → bytes_eq (get_or hs k d).info.name name ≡ false)
    → None ≡ collection_index hs name
place_none name [] d h = refl
place_none name (b ∷ bs) d h =
    rw (h 0 (omega arith)) (ap (option_map suc) (place_none name bs d (λ k m. h (suc k) (omega arith))))

pub fits_at : (hs : List Held) (i : ℕ) (x : Held) (total : ℕ) → i < length hs → x ≡ get_or hs i x
    → total ≡ documents_in hs → length x.documents ≤ total
fits_at hs i x total l v t =
    let f = held_at hs i x l in
    let e : length x.documents ≡ length (get_or hs i x).documents = ap (λ (h : Held). length h.documents) v in
    omega (arith, f, e, t)

-- ---- limits

abbrev pub Declared : Held → Type 0
Declared h = IsDeclared h.info

-- the counts and the limits once the collection with a number has n more documents
pub set_total : (hs : List Held) (i : ℕ) (x h : Held) (total after n : ℕ) → i < length hs → x ≡ get_or hs i x
    → total ≡ documents_in hs → IsWithinLimits hs → after ≡ total + n → after ≤ 200000
    → length h.documents ≡ length x.documents + n → (Declared x → Declared h)
    → (after ≡ documents_in (slice_set hs i h)) × IsWithinLimits (slice_set hs i h)
set_total hs i x h total after n l v t w s r o k =
    let e : length h.documents ≡ length (get_or hs i x).documents + n =
    o ∙ ap (λ (g : Held). length g.documents + n) v in
    let f = held_set hs i x h n l e in
    let old : Declared x = subst Declared (sym v) (w.declarations i x l) in (
      omega (arith, f, t, s),
      record {
        collections = rw length-set w.collections;
        documents = omega (arith, f, t, s, r);
        declarations = All-set Declared hs i h (k old) w.declarations;
      },
    )

-- and once there is one more collection
pub pushed : (hs : List Held) (h : Held) (total : ℕ) → total ≡ documents_in hs → IsWithinLimits hs
    → length hs < 64 → length h.documents ≡ 0 → Declared h
    → (total ≡ documents_in (hs ++ h ∷ [])) × IsWithinLimits (hs ++ h ∷ [])
pushed hs h total t w l o k =
    let e = held_more hs h in
    let most = w.documents in
    let count = length_push hs h in (
      omega (arith, e, t, o),
      record {
        collections = omega (arith, count, l);
        documents = omega (arith, e, o, most);
        declarations = All-push Declared hs h w.declarations k;
      },
    )

-- a declaration without indexes
pub none_declared : (name : List ℕ) (edge : Bool) (shards : ℕ) (keys : List (List ℕ))
    → (1 ≤ shards) × (shards ≤ 32) → HasOneToEight keys
    → IsDeclared (record { name = name; edge = edge; shards = shards; keys = keys; indexes = [] })
none_declared name edge shards keys s k = record {
  shards = s;
  keys = k;
  indexes = omega arith;
  attributes = λ i d l. absurd (omega arith);
  apart = λ i j d l m. absurd (omega arith);
}

neither : (a b : Bool) → (a || b) ≡ false → (a ≡ false) × (b ≡ false)
neither true b e = absurd (cc)
neither false b e = (refl, e)

none_alike : (indexes : List (List (List ℕ))) (attributes : List (List ℕ))
    → has_index indexes attributes ≡ false
    → All (λ index. are_same index attributes ≡ false) indexes
none_alike [] attributes e k d l = absurd (omega arith)
none_alike (i ∷ is) attributes e zero d l = (neither _ _ e).0
none_alike (i ∷ is) attributes e (suc k) d l = none_alike is attributes (neither _ _ e).1 k d (omega arith)

indexes_apart : (indexes : List (List (List ℕ))) (attributes : List (List ℕ)) → AreApart indexes
    → All (λ index. are_same index attributes ≡ false) indexes → AreApart (indexes ++ attributes ∷ [])
indexes_apart [] attributes a n i j d l m = absurd (omega arith)
indexes_apart (x ∷ xs) attributes a n zero zero d l m = absurd (omega arith)
indexes_apart (x ∷ xs) attributes a n zero (suc j) d l m =
    All-push (λ later. are_same x later ≡ false) xs attributes
    (λ k e h. a 0 (suc k) e (omega arith) (omega arith)) (n 0 x (omega arith)) j d (omega arith)
indexes_apart (x ∷ xs) attributes a n (suc i) zero d l m = absurd (omega arith)
indexes_apart (x ∷ xs) attributes a n (suc i) (suc j) d l m =
    indexes_apart xs attributes (λ p q e h k. a (suc p) (suc q) e (omega arith) (omega arith))
    (λ k e h. n (suc k) e (omega arith)) i j d (omega arith) (omega arith)

one_more : (h g : Held) (attributes : List (List ℕ)) → has_index h.info.indexes attributes ≡ false
    → length h.info.indexes < 16 → HasOneToEight attributes → Declared h
    → record h { info = record h.info { indexes = h.info.indexes ++ attributes ∷ [] } } ≡ g → Declared g
one_more h g attributes e l c d s =
    let count = length_push h.info.indexes attributes in
    subst Declared s (record {
      shards = d.shards;
      keys = d.keys;
      indexes = omega (arith, count, l);
      attributes = All-push HasOneToEight h.info.indexes attributes d.attributes c;
      apart = indexes_apart h.info.indexes attributes d.apart (none_alike h.info.indexes attributes e);
    })

room_for : (h g : Held) (attributes : List (List ℕ)) → has_index h.info.indexes attributes ≡ false
    → (b : Bool) → nat_lt (length h.info.indexes) 16 ≡ b
    → (if b then Ok (record h { info = record h.info { indexes = h.info.indexes ++ attributes ∷ [] } })
    else Err TooMany) ≡ Ok g → HasOneToEight attributes → Declared h → Declared g
room_for h g attributes e true l w c d = one_more h g attributes e (ltb-true _ _ l) c d (cc)
room_for h g attributes e false l w c d = absurd (cc)

-- a declared collection with one more index, or with one that it has
pub indexed_within : (h g : Held) (attributes : List (List ℕ)) → with_index h attributes ≡ Ok g
    → HasOneToEight attributes → Declared h → Declared g
indexed_within h g attributes w c d =
    elim (has_index h.info.indexes attributes)
    as (λ b. has_index h.info.indexes attributes ≡ b → (if b then Ok h
    else (if nat_lt (length h.info.indexes) 16
    then Ok (record h { info = record h.info { indexes = h.info.indexes ++ attributes ∷ [] } })
    else Err TooMany)) ≡ Ok g → Declared g) [
      | true ↦ λ e w. let same : h ≡ g = cc in subst Declared same d
      | false ↦ λ e w. room_for h g attributes e (nat_lt (length h.info.indexes) 16) refl w c d
    ] refl w

pub kept_within : {T E : Type 0} → (r : Result T E) (h g : Held) (attributes : List (List ℕ))
    → OnOk r (with_index h attributes ≡ Ok g) → OnErr r (g ≡ h) → HasOneToEight attributes → Declared h
    → Declared g
kept_within (Ok t) h g attributes w u c d = indexed_within h g attributes w c d
kept_within (Err e) h g attributes w u c d = subst Declared (sym u) d

-- how the collection with a number is declared
pub info_within : (hs : List Held) (i : ℕ) (r : Option (Bor CollInfo)) → IsWithinLimits hs
    → option_map (λ x. x.now) r ≡ option_map (λ (h : Held). h.info) (slice_get hs i)
    → IfSome r (λ x. IsDeclared x.now)
info_within hs i None w e = tt
info_within hs i (Some x) w e =
    elim (slice_get_cases hs i).1 [
      | inl q ↦ subst IsDeclared (cc (e, q.2)) (subst Declared q.3 (w.declarations i q.0 q.1))
      | inr q ↦ absurd (cc (e, q.1))
    ]

set_same : (hs : List Held) (i : ℕ) (x : Held) → i < length hs → x ≡ get_or hs i x → slice_set hs i x ≡ hs
set_same [] i x l v = absurd (omega (arith, l))
set_same (g ∷ hs) zero x l v = ap (λ h. h ∷ hs) v
set_same (g ∷ hs) (suc i) x l v =
    let lt : i < length hs = omega arith in ap (λ t. g ∷ t) (set_same hs i x lt v)

pub unchanged : (hs now : List Held) (i : ℕ) (x h : Held) → hs ≡ now → i < length hs → x ≡ get_or hs i x
    → h ≡ x
    → slice_set hs i h ≡ now
unchanged hs now i x h e l v same = ap (slice_set hs i) same ∙ set_same hs i x l v ∙ e

pub found : (hs now : List Held) (i : ℕ) (x : Held) → hs ≡ now → i < length hs → x ≡ get_or hs i x
    → slice_get now i ≡ Some x
found hs now i x e l v = ap (λ xs. slice_get xs i) (sym e) ∙ slice_get-get_or hs i x l ∙ ap Some (sym v)

-- what comes of the collection comes of the catalog
pub gives : {E : Type 0} → (hs now : List Held) (i : ℕ) (x h : Held) (f : Held → Result Held E) → hs ≡ now
    → slice_get now i ≡ Some x → f x ≡ Ok h → change now i f (slice_get now i) ≡ Ok (slice_set hs i h)
gives hs now i x h f e g w =
    ap (change now i f) g ∙ ap (replace now i) w ∙ ap (λ xs. Ok (slice_set xs i h)) (sym e)

pub refuses : {E : Type 0} → (now : List Held) (i : ℕ) (x : Held) (f : Held → Result Held E) (fault : E)
    → slice_get now i ≡ Some x → f x ≡ Err fault → change now i f (slice_get now i) ≡ Err fault
refuses now i x f fault g w = ap (change now i f) g ∙ ap (replace now i) w

-- the documents of the collection with a number
pub documents_found : (held : List Held) (i : ℕ) (x : Held) → slice_get held i ≡ Some x
    → length x.documents ≡ length (documents_at held i)
documents_found held i x g =
    sym (ap (λ o. length (unwrap_or (option_map (λ (h : Held). h.documents) o) [])) g)

pub counted : (hs now : List Held) (x : Held) (total : ℕ) (t : Datum) → hs ≡ now → total ≡ documents_in hs
    → with_document x (documents_in now) t ≡ with_document x total t
counted hs now x total t e d = sym (ap (λ n. with_document x n t) (d ∙ ap documents_in e))

pub on_ok : {T E : Type 0} → (r : Result T E) (P Q : Type 0) → (P → Q) → OnOk r P → OnOk r Q
on_ok (Ok t) P Q f h = f h
on_ok (Err e) P Q f h = tt

pub on_err : {T E : Type 0} → (r : Result T E) (P Q : Type 0) → (P → Q) → OnErr r P → OnErr r Q
on_err (Ok t) P Q f h = tt
on_err (Err e) P Q f h = f h

pub if_err : {T E : Type 0} → (r : Result T E) (P Q : E → Type 0) → ((e : E) → P e → Q e) → IfErr r P
    → IfErr r Q
if_err (Ok t) P Q f h = tt
if_err (Err e) P Q f h = f e h

abbrev pub some_held : Held
some_held = record {
  info = record { name = []; edge = false; shards = 0; keys = []; indexes = [] };
  documents = [];
}
