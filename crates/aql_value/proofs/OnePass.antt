-- One pass over the tokens of a line: what each token gives, and what the loops have read so far.
use Rattle.std.proofs.Common.{◌≡◌, ◌+◌, ◌-◌, ◌≤◌, ◌<◌, ◌^◌, ℕ, ℤ, List, [], ◌∷◌, ◌++◌, Bool, true, false, Option, Some, None, length, option_map, option_and_then, refl, sym, ap, ◌∙◌, arith, Less, Equal, Greater, lt-ltb, IsUtf8}
use Rattle.std.specs.Prelude.{FitsSigned, Result, Ok, Err, is_err, OnOk, IfSome, SomeIff, slice_index, ◌==◌, drop}
use Rattle.std.specs.Int.{w64}
use Rattle.std.specs.Ordering.{nat_cmp, match_ordering}
use Rattle.std.specs.Cmp.Lexicographic.{slice_cmp}
use Rattle.fast_float.specs.Text.{Parts, IsInteger, scan, digits_of, with_sign}
use Rattle.json.specs.Token.{Token}
use Rattle.json.specs.Lex.{tokens}
use Rattle.json.specs.Json as grammar
use Rattle.json.specs.Json.{parse_map, after_end_array, read_key}
use Rattle.json.proofs.Grammar.{value_is, value-begin_array, value-begin_object, items_end, items_more, members_end, members_more}
use Rattle.serde_json.specs.Data as json
use Rattle.serde_json.specs.Find.{as_i64}
use Rattle.serde_json.specs.Read.{of_json, of_members, number_of, number_from}
use Rattle.aql_value.specs.Datum.{Datum, null, boolean, number, text, array, object, Datums, no_datums, datum_then, Fields, no_fields, field, array_of, object_of}
use Rattle.aql_value.specs.FromJson.{from_json, members_from_json}
use Rattle.aql_value.specs.Attributes.{with_attribute}
use Rattle.aql_value.specs.JsonLine.{json_line}
use Rattle.aql_value.specs.inner.Tokens.{ValueStands, ItemsStand, levels, ReadsValue, ReadsItems, ReadsMembers}
use Rattle.aql_value.specs.laws.Ranks.{same_bytes}
use Rattle.aql_value.proofs.JsonLines.{read_whole}
use Rattle.aql_value.proofs.Turns.{trees_before, trees_all, trees_last}

pub done : {T E P : Type 0} (r : Result T E) → is_err r ≡ false → OnOk r P → P
done (Ok t) e h = h
done (Err x) e h = absurd cc

-- ---- one token

pub null_read : (room : ℕ) (ts : List Token) → ReadsValue room (Token.null ∷ ts) ts null
null_read room ts = record {
  tree = grammar.null;
  is = value_is (levels room) (Token.null ∷ ts);
  stands = record { json_data = json.null; of_is = refl; from_is = refl; within = omega arith };
}

pub bool_read : (room : ℕ) (b : Bool) (ts : List Token)
    → ReadsValue room (Token.boolean b ∷ ts) ts (boolean b)
bool_read room b ts = record {
  tree = grammar.boolean b;
  is = value_is (levels room) (Token.boolean b ∷ ts);
  stands = record { json_data = json.boolean b; of_is = refl; from_is = refl; within = omega arith };
}

pub text_read : (room : ℕ) (s : List ℕ) (ts : List Token) → ReadsValue room (Token.string s ∷ ts) ts (text s)
text_read room s ts = record {
  tree = grammar.string s;
  is = value_is (levels room) (Token.string s ∷ ts);
  stands = record { json_data = json.string s; of_is = refl; from_is = refl; within = omega arith };
}

there : (o : Option json.Num) (z : ℤ) → option_and_then as_i64 o ≡ Some z
    → (n : json.Num) × (o ≡ Some n) × (as_i64 n ≡ Some z)
there None z e = absurd cc
there (Some n) z e = (n, refl, e)

pub number_read : (room : ℕ) (s : List ℕ) (z : ℤ) (ts : List Token)
    → option_and_then as_i64 (number_of s) ≡ Some z → ReadsValue room (Token.number s ∷ ts) ts (number z)
number_read room s z ts e =
    let n = there (number_of s) z e in
    record {
      tree = grammar.number s;
      is = value_is (levels room) (Token.number s ∷ ts);
      stands = record {
        json_data = json.number n.0;
        of_is = ap (option_map json.number) n.1;
        from_is = ap (option_map number) n.2;
        within = omega arith;
      };
    }

-- ---- a value in brackets

one_less : (room inner : ℕ) → inner + 1 ≡ room → levels room - 1 ≡ levels inner
one_less room inner e = omega arith

pub array_read : (room inner : ℕ) (ts left : List Token) (us : List Datum) → inner + 1 ≡ room
    → ReadsItems inner ts left us → ReadsValue room (Token.begin_array ∷ ts) left (array (array_of us))
array_read room inner ts left us e h = record {
  tree = grammar.array h.tree;
  is = value-begin_array (levels room) ts (omega arith)
      ∙ ap (λ n. parse_map grammar.array (grammar.items (grammar.value n) (length ts) ts)) (one_less room inner e)
      ∙ ap (parse_map grammar.array) h.is;
  stands = record {
    json_data = json.array h.stands.json_data;
    of_is = ap (option_map json.array) h.stands.of_is;
    from_is = ap (option_map array) h.stands.from_is;
    within = omega (arith, h.stands.within);
  };
}

pub object_read : (room inner : ℕ) (ts left : List Token) (fs : List (List ℕ × Datum)) → inner + 1 ≡ room
    → ReadsMembers inner ts left fs → ReadsValue room (Token.begin_object ∷ ts) left (object (object_of fs))
object_read room inner ts left fs e h = record {
  tree = grammar.object h.tree;
  is = value-begin_object (levels room) ts (omega arith)
      ∙ ap (λ n. parse_map grammar.object (grammar.members (grammar.value n) (length ts) ts)) (one_less room inner e)
      ∙ ap (parse_map grammar.object) h.is;
  stands = record {
    json_data = json.object h.stands.json_data;
    of_is = ap (option_map json.object) h.stands.of_is;
    from_is = ap (option_map object) h.stands.from_is;
    within = omega (arith, h.stands.within);
  };
}

-- ---- the items that were read so far

mapped : {A B C : Type 0} (f : A → B) (g : B → C) (o : Option (A × List Token))
    → parse_map g (parse_map f o) ≡ parse_map (λ a. g (f a)) o
mapped f g None = refl
mapped f g (Some p) = refl

unmapped : {A : Type 0} (o : Option (A × List Token)) → o ≡ parse_map (λ a. a) o
unmapped None = refl
unmapped (Some p) = refl

item_stands : (room : ℕ) (j : grammar.Json) (t : Datum) (js : grammar.Items) (us : Datums)
    → ValueStands room t j → ItemsStand room us js → ItemsStand room (datum_then t us) (grammar.item j js)
item_stands room j t js us h k = record {
  json_data = json.item h.json_data k.json_data;
  of_is = rw (h.of_is, k.of_is) refl;
  from_is = rw (h.from_is, k.from_is) refl;
  within = omega (arith, h.within, k.within);
}

-- at the tokens `at`, with the items that stand for `us` before them
pub record ItemsSoFar (room : ℕ) (us : List Datum) (start at : List Token) : Type 0 where
  pub turns : ℕ
  pub before : grammar.Items → grammar.Items
  pub enough : length at ≤ turns
  pub no_longer : length at ≤ length start
  pub is : grammar.items (grammar.value (levels room)) (length start) start
      ≡ parse_map before (grammar.items (grammar.value (levels room)) turns at)
  pub stand : (js : grammar.Items) (vs : Datums) → ItemsStand room vs js
      → ItemsStand room (trees_before us vs) (before js)

pub no_items_yet : (room : ℕ) (start : List Token) → ItemsSoFar room [] start start
no_items_yet room start = record {
  turns = length start;
  before = λ js. js;
  enough = omega arith;
  no_longer = omega arith;
  is = unmapped (grammar.items (grammar.value (levels room)) (length start) start);
  stand = λ js vs h. h;
}

pub one_more_item : (room : ℕ) (us : List Datum) (t : Datum) (start at left : List Token)
    → ItemsSoFar room us start at → after_end_array at ≡ None → length left < length at
    → ReadsValue room at left t → ItemsSoFar room (us ++ t ∷ []) start left
one_more_item room us t start at left h goes less r =
    let p = grammar.value (levels room) in
    let some : 0 < h.turns = omega (arith, h.enough) in
    record {
      turns = h.turns - 1;
      before = λ js. h.before (grammar.item r.tree js);
      enough = omega (arith, h.enough);
      no_longer = omega (arith, h.no_longer);
      is = h.is ∙ ap (parse_map h.before) (items_more p h.turns at left r.tree some goes r.is)
          ∙ mapped (grammar.item r.tree) h.before (grammar.items p (h.turns - 1) left);
      stand = λ js vs k. rw (← trees_last us t vs)
          (h.stand (grammar.item r.tree js) (datum_then t vs) (item_stands room r.tree t js vs r.stands k));
    }

pub items_read : (room : ℕ) (us : List Datum) (start at left : List Token) → ItemsSoFar room us start at
    → after_end_array at ≡ Some left → ReadsItems room start left us
items_read room us start at left h ends =
    let p = grammar.value (levels room) in
    record {
      tree = h.before grammar.no_items;
      is = h.is ∙ ap (parse_map h.before) (items_end p h.turns at left h.enough ends);
      stands = rw (← trees_all us)
          (h.stand grammar.no_items no_datums
          (record { json_data = json.no_items; of_is = refl; from_is = refl; within = omega arith }));
    }

-- ---- the members that were read so far

parts : (o : Option Datum) (rest : Option Fields) (l k : List ℕ) (u : Datum) (gs : Fields)
    → option_and_then (λ t. option_map (field l t) rest) o ≡ Some (field k u gs)
    → (l ≡ k) × (o ≡ Some u) × (rest ≡ Some gs)
parts None rest l k u gs e = absurd cc
parts (Some t) None l k u gs e = absurd cc
parts (Some t) (Some fs) l k u gs e = (cc, cc, cc)

not_none : (o : Option Datum) (rest : Option Fields) (l : List ℕ)
    → option_and_then (λ t. option_map (field l t) rest) o ≡ Some no_fields → ⊥
not_none None rest l e = cc
not_none (Some t) None l e = cc
not_none (Some t) (Some fs) l e = cc

-- a member that is put is an attribute that is set
put_sets : (k : List ℕ) (d : json.Data) (t : Datum) (ms : json.Members) (fs : List (List ℕ × Datum))
    → from_json d ≡ Some t → members_from_json ms ≡ Some (object_of fs)
    → members_from_json (json.put k d ms) ≡ Some (object_of (with_attribute k t fs))
put_sets k d t json.no_members [] e h = rw e refl
put_sets k d t json.no_members (f ∷ fs) e h = absurd cc
put_sets k d t (json.member l c ms) [] e h = absurd (not_none (from_json c) (members_from_json ms) l h)
put_sets k d t (json.member l c ms) (f ∷ fs) e h =
    let p = parts (from_json c) (members_from_json ms) l f.0 f.1 (object_of fs) h in
    rw p.0
    (elim (slice_cmp nat_cmp k f.0)
    as (λ o. slice_cmp nat_cmp k f.0 ≡ o
    → members_from_json
    (match_ordering o (json.member k d (json.member f.0 c ms)) (json.member f.0 d ms)
    (json.member f.0 c (json.put k d ms)))
    ≡ Some
    (object_of (match_ordering o ((k, t) ∷ f ∷ fs) ((k, t) ∷ fs) (f ∷ with_attribute k t fs)))) [
      | Less ↦ λ b. rw (e, p.1, p.2) refl
      | Equal ↦ λ b. rw (e, p.2) (ap (λ n. Some (field n t (object_of fs))) (sym (same_bytes k f.0 b)))
      | Greater ↦ λ b. rw (p.1, put_sets k d t ms fs e p.2) refl
    ] refl)

put_within : (k : List ℕ) (d : json.Data) (ms : json.Members) (room : ℕ) → json.depth d ≤ room
    → json.members_depth ms ≤ room → json.members_depth (json.put k d ms) ≤ room
put_within k d json.no_members room a b = omega (arith, a)
put_within k d (json.member l c ms) room a b =
    let rest : json.members_depth ms ≤ room = omega (arith, b) in
    let more = put_within k d ms room a rest in
    elim (slice_cmp nat_cmp k l)
    as (λ o. json.members_depth
    (match_ordering o (json.member k d (json.member l c ms)) (json.member l d ms)
    (json.member l c (json.put k d ms)))
    ≤ room) [
      | Less ↦ omega (arith, a, b)
      | Equal ↦ omega (arith, a, rest)
      | Greater ↦ omega (arith, b, more)
    ]

-- at the tokens `at`, with the members that stand for `fs` before them
pub record MembersSoFar (room : ℕ) (fs : List (List ℕ × Datum)) (start at : List Token) : Type 0 where
  pub turns : ℕ
  pub before : grammar.Members → grammar.Members
  pub found : json.Members
  pub enough : length at ≤ turns
  pub no_longer : length at ≤ length start
  pub is : grammar.members (grammar.value (levels room)) (length start) start
      ≡ parse_map before (grammar.members (grammar.value (levels room)) turns at)
  pub of_is : (ms : grammar.Members) → of_members (before ms) json.no_members ≡ of_members ms found
  pub from_is : members_from_json found ≡ Some (object_of fs)
  pub within : json.members_depth found ≤ room

pub no_members_yet : (room : ℕ) (start : List Token) → MembersSoFar room [] start start
no_members_yet room start = record {
  turns = length start;
  before = λ ms. ms;
  found = json.no_members;
  enough = omega arith;
  no_longer = omega arith;
  is = unmapped (grammar.members (grammar.value (levels room)) (length start) start);
  of_is = λ ms. refl;
  from_is = refl;
  within = omega arith;
}

pub one_more_member : (room : ℕ) (fs : List (List ℕ × Datum)) (k : List ℕ) (t : Datum)
    (start at behind left : List Token)
    → MembersSoFar room fs start at → read_key at ≡ Some (Some k, behind) → length behind < length at
    → length left < length behind → ReadsValue room behind left t
    → MembersSoFar room (with_attribute k t fs) start left
one_more_member room fs k t start at behind left h key less lesser r =
    let p = grammar.value (levels room) in
    let some : 0 < h.turns = omega (arith, h.enough) in
    record {
      turns = h.turns - 1;
      before = λ ms. h.before (grammar.member k r.tree ms);
      found = json.put k r.stands.json_data h.found;
      enough = omega (arith, h.enough);
      no_longer = omega (arith, h.no_longer);
      is = h.is ∙ ap (parse_map h.before) (members_more p h.turns k at behind left r.tree some key r.is)
          ∙ mapped (grammar.member k r.tree) h.before (grammar.members p (h.turns - 1) left);
      of_is = λ ms. h.of_is (grammar.member k r.tree ms)
          ∙ ap (option_and_then (λ d. of_members ms (json.put k d h.found))) r.stands.of_is;
      from_is = put_sets k r.stands.json_data t h.found fs r.stands.from_is h.from_is;
      within = put_within k r.stands.json_data h.found room r.stands.within h.within;
    }

pub members_read : (room : ℕ) (fs : List (List ℕ × Datum)) (start at left : List Token)
    → MembersSoFar room fs start at → read_key at ≡ Some (None, left) → ReadsMembers room start left fs
members_read room fs start at left h ends =
    let p = grammar.value (levels room) in
    record {
      tree = h.before grammar.no_members;
      is = h.is ∙ ap (parse_map h.before) (members_end p h.turns at left h.enough ends);
      stands = record {
        json_data = h.found;
        of_is = h.of_is grammar.no_members;
        from_is = h.from_is;
        within = h.within;
      };
    }

-- ---- the whole line

pub line_read : (line : List ℕ) (t : Datum) → IsUtf8 line → ReadsValue 64 (tokens line) [] t
    → json_line line ≡ Ok t
line_read line t u r =
    read_whole r.stands.json_data t line u
    (ap (λ o. option_and_then of_json (option_and_then (λ p. grammar.if_last p.0 p.1) o)) r.is ∙ r.stands.of_is)
    r.stands.within r.stands.from_is

-- ---- whole numbers

whole_positive : (p : Parts) → IsInteger p → FitsSigned w64 (with_sign false (digits_of p))
    → option_and_then as_i64 (number_from false p) ≡ Some (with_sign false (digits_of p))
whole_positive p h f =
    let low : digits_of p < 2 ^ 63 = omega (arith, f.sfits) in
    let lower : digits_of p < 2 ^ 64 = omega (arith, low) in
    rw (lt-ltb 0 (length p.whole) h.0, h.1, h.2, lt-ltb _ _ lower) (rw (lt-ltb _ _ low) refl)

pub positive_read : (s : List ℕ) (p : Parts) (o : Option ℤ) → (slice_index s 0 == 45) ≡ false → p ≡ scan s
    → SomeIff o (IsInteger p × FitsSigned w64 (with_sign false (digits_of p))) (with_sign false (digits_of p))
    → IfSome o (λ z. option_and_then as_i64 (number_of s) ≡ Some z)
unfolding number_of
positive_read s p None e a h = tt
positive_read s p (Some z) e a h =
    rw (e, ← a) (whole_positive p h.0.0 h.0.1 ∙ ap Some (sym h.1))

pub negative_read : (s : List ℕ) (p : Parts) (o : Option ℤ) → (slice_index s 0 == 45) ≡ true
    → p ≡ scan (drop 1 s) → IfSome o (λ z. option_and_then as_i64 (number_from true p) ≡ Some z)
    → IfSome o (λ z. option_and_then as_i64 (number_of s) ≡ Some z)
unfolding number_of
negative_read s p None e a h = tt
negative_read s p (Some z) e a h = rw (e, ← a) h
