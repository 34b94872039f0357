-- The keys of documents, as documents come and go.
use Rattle.std.proofs.Common.{◌≡◌, ℕ, List, [], ◌∷◌, ◌++◌, Bool, true, false, cond, ◌||◌, Option, Some, None, refl, sym, ap, ◌∙◌, length, take, drop, bytes_eq, option_map, codes, String, string_bytes, string_eq}
use Rattle.std.specs.Prelude.{unwrap_or, MatchOption, Ok, Err, IfSome, if◌then◌else◌}
use Rattle.std.specs.Str.Pattern.{FindsTextPrefix, StripsPrefix}
use Rattle.std.specs.Borrow.{Bor}
use Rattle.std.specs.HashSet.{HashSet, IsReordered, contains_text}
use Rattle.std.proofs.lemmas.List.Sorted.{list_any-IsPermutation}
use Rattle.std.proofs.lemmas.Slice.Eq.{bytes_eq-Decides}
use Rattle.std.proofs.lemmas.Bool.{false_from_ne_true}
use Rattle.std.proofs.lemmas.Bool.Decides.{same_from_decides}
use Rattle.std.proofs.lemmas.List.Folds.{list_any-append}
use Rattle.std.proofs.lemmas.List.{take-append-drop}
use Rattle.std.proofs.Math.Seq.{take-append_seam}
use Rattle.aql_value.specs.Datum.{Datum, null, boolean, number, text, array, object}
use Rattle.aql_value.specs.Attributes.{attribute, with_attribute}
use Rattle.aql_value.specs.laws.Lists.{fields_list-object_of}
use Rattle.aql_doc.specs.Keys.{rest_after, id_of, is_key, is_text}
use Rattle.aql_doc.specs.KeySet.{key_of, bytes_of, has_key}
use Rattle.aql_doc.specs.Documents.{fill, key_given, id_beside}
use Rattle.aql_doc.specs.declared.faults.DocFault.TheVariants.{BadKey, IdMismatch}
use Rattle.aql_doc.proofs.Attributes.{attribute_same, attribute_other}

-- a document has the key that it is given
pub key_of-filled : (name key : List ℕ) (ms : List (List ℕ × Datum)) → key_of (fill name key ms) ≡ key
unfolding fill
key_of-filled name key ms =
    let keyed = with_attribute (codes "_key") (text key) ms in
    let whole = with_attribute (codes "_id") (text (id_of name key)) keyed in
    ap (λ fs. bytes_of (unwrap_or (attribute (codes "_key") fs) null)) (fields_list-object_of whole)
    ∙ ap (λ o. bytes_of (unwrap_or o null))
    (attribute_other (codes "_key") (codes "_id") (text (id_of name key)) keyed refl
    ∙ attribute_same (codes "_key") (text key) ms)

swapped : (xs ys : List ℕ) → bytes_eq xs ys ≡ bytes_eq ys xs
swapped xs ys =
    same_from_decides (bytes_eq xs ys) (bytes_eq ys xs) (bytes_eq-Decides xs ys)
    ((λ e. sym ((bytes_eq-Decides ys xs).0 e)), (λ e. (bytes_eq-Decides ys xs).1 (sym e)))

or_flip : (a b : Bool) → (a || (b || false)) ≡ cond b true a
or_flip true true = refl
or_flip true false = refl
or_flip false true = refl
or_flip false false = refl

-- one more document, one more key
pub has_key-append : (docs : List Datum) (name key : List ℕ) (ms : List (List ℕ × Datum)) (q : List ℕ)
    → has_key (docs ++ fill name key ms ∷ []) q ≡ cond (bytes_eq key q) true (has_key docs q)
unfolding has_key
has_key-append docs name key ms q =
    list_any-append (λ d. bytes_eq q (key_of d)) docs (fill name key ms ∷ [])
    ∙ ap (λ k. has_key docs q || (bytes_eq q k || false)) (key_of-filled name key ms)
    ∙ ap (λ b. has_key docs q || (b || false)) (swapped q key)
    ∙ or_flip (has_key docs q) (bytes_eq key q)

-- room that is made in the set
pub made_room : {Y S : Type 0} → (q : List ℕ) (s n : HashSet (String Y) S) → IsReordered string_eq s n
    → contains_text n q ≡ contains_text s q
made_room q s n r = sym (list_any-IsPermutation (λ k. bytes_eq q (string_bytes k)) s.keys n.keys r.0)

-- the set after room was made in it and the key was put in, at a key q
pub put_in : (docs docs2 : List Datum) (doc : Datum) (name key : List ℕ) (ms : List (List ℕ
    × Datum)) (q : List ℕ)
    (o r i : Bool) → o ≡ has_key docs q → r ≡ o → i ≡ cond (bytes_eq key q) true r → doc ≡ fill name key ms
    → docs2 ≡ docs ++ doc ∷ [] → i ≡ has_key docs2 q
put_in docs docs2 doc name key ms q o r i f e g h j =
    g ∙ ap (cond (bytes_eq key q) true) (e ∙ f)
    ∙ sym (ap (λ d. has_key d q) j ∙ ap (λ t. has_key (docs ++ t ∷ []) q) h
    ∙ has_key-append docs name key ms q)

key_of_id : (name s key : List ℕ) (id : Option Datum) → id_beside name s id ≡ Ok key → text s ≡ text key
key_of_id name s key None e = cc
key_of_id name s key (Some id) e =
    elim (is_text (id_of name s) id) as (λ b. (if b then Ok s else Err IdMismatch) ≡ Ok key
    → text s ≡ text key) [
      | true ↦ λ e. cc
      | false ↦ λ e. absurd (cc)
    ] e

key_of_text : (name s key : List ℕ) (id : Option Datum) (b : Bool)
    → (if b then id_beside name s id else Err BadKey) ≡ Ok key → text s ≡ text key
key_of_text name s key id true e = key_of_id name s key id e
key_of_text name s key id false e = absurd (cc)

-- the key that a `_key` gives is its text
pub key_is_there : (name key : List ℕ) (at id : Option Datum) → key_given name at id ≡ Ok key
    → IfSome at (λ t. t ≡ text key)
key_is_there name key None id e = tt
key_is_there name key (Some (text s)) id e = key_of_text name s key id (is_key s) e
key_is_there name key (Some null) id e = absurd (cc)
key_is_there name key (Some (boolean b)) id e = absurd (cc)
key_is_there name key (Some (number z)) id e = absurd (cc)
key_is_there name key (Some (array ts)) id e = absurd (cc)
key_is_there name key (Some (object fs)) id e = absurd (cc)

pub rest_after_is : (front s : List ℕ) (r : Option (Bor (List ℕ)))
    → MatchOption r (FindsTextPrefix front s None) (λ x. StripsPrefix (FindsTextPrefix front) s x.now)
    → option_map (λ x. x.now) r ≡ rest_after front s
rest_after_is front s None h =
    let no_front : bytes_eq (take (length front) s) front ≡ false =
    false_from_ne_true _ (λ e. h (drop (length front) s)
    (sym (take-append-drop (length front) s)
    ∙ ap (λ f. f ++ drop (length front) s) ((bytes_eq-Decides _ _).0 e))) in
    rw no_front refl
rest_after_is front s (Some x) h =
    let at : h.0 ≡ length front = h.1.0 in
    let is_front : bytes_eq (take (length front) s) front ≡ true =
    (bytes_eq-Decides _ _).1 (ap (take (length front)) h.1.1 ∙ take-append_seam front _) in
    rw is_front (ap Some (h.2 ∙ ap (λ n. drop n s) at))
