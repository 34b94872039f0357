use Rattle.std.proofs.Common.{◌<◌, ◌∙◌, List, subst, sym, rules, ap}
use Rattle.std.specs.List.{All, Contains, list_any}
use Rattle.std.specs.List.Sorted.{IsNonDecreasingBy}
use Rattle.std.proofs.lemmas.List.Sorted.{IsNonDecreasingBy-from_sort_by_key, All-permutation, list_any-IsPermutation}
use Rattle.aql_index.specs.declared.entries.Entry.{Entry}
use Rattle.aql_value.specs.View.{datums_in}
use Rattle.aql_index.specs.inner.Zones.{lone_zone, in_zone}
use Rattle.aql_index.specs.inner.Places.{holds, IsSpanOf, AreSpansOnce}
use Rattle.aql_index.specs.declared.bounds.Span.{Span}
use Rattle.aql_index.proofs.Spread.{spread, spans_once, spans_of_values, apart_in}
use Rattle.aql_index.proofs.spans.find_spans.Goals as goal

pub each_once-requires : goal.each_once-requires
each_once-requires c =
    let found = c.sort_by_key.new.self.items in
    let back = sym c.as_slice.ensures.value in
    let each = All-permutation (IsSpanOf c.args.entries.now (datums_in c.args.equal.now)) _ found
    c.in_ok-sort_by_key.ensures.permutation c.in_ok-found.ensures.each in
    record {
      sorted = subst (IsNonDecreasingBy (λ (s : Span). s.from)) back
          (IsNonDecreasingBy-from_sort_by_key (λ (s : Span). s.from) found
          c.in_ok-sort_by_key.ensures.sorted (λ a r f k. search rules));
      some = subst (All (λ (s : Span). s.from < s.to)) back (λ k d l. (each k d l).some);
      once = subst AreSpansOnce back
          (spans_once c.args.entries.now (datums_in c.args.equal.now) found each);
    }

pub returns-clause-apart : goal.returns-clause-apart
returns-clause-apart c =
    let found = c.sort_by_key.new.self.items in
    apart_in c.args.entries.now (datums_in c.args.equal.now) found c.in_ok-spans.spans
    c.in_ok-spans.ensures.apart.0
    (All-permutation (IsSpanOf c.args.entries.now (datums_in c.args.equal.now)) _ found
    c.in_ok-sort_by_key.ensures.permutation c.in_ok-found.ensures.each)
    (subst (λ (ss : List Span). All (Contains ss) c.in_ok-spans.spans) c.as_slice.ensures.value
    c.in_ok-spans.ensures.some_of_them)
    c.in_ok-spans.ensures.apart.1

pub returns-clause-exactly : goal.returns-clause-exactly
returns-clause-exactly c =
    let entries = c.args.entries.now in
    let equal = datums_in c.args.equal.now in
    let values = datums_in c.args.elements.now in
    let found = c.sort_by_key.new.self.items in
    spread (λ (e : Entry). list_any (λ v. in_zone (lone_zone v) equal e.keys) values) entries
    c.in_ok-spans.spans 0 c.in_ok-spans.ensures.apart.0 c.in_ok-spans.ensures.apart.1
    (λ k d low l. sym (c.in_ok-found.ensures.all k d l)
    ∙ list_any-IsPermutation (holds k) _ found c.in_ok-sort_by_key.ensures.permutation
    ∙ sym (ap (list_any (holds k)) c.as_slice.ensures.value)
    ∙ sym (c.in_ok-spans.ensures.all k))

pub returns-clause-each : goal.returns-clause-each
returns-clause-each c =
    let found = c.sort_by_key.new.self.items in
    spans_of_values c.args.entries.now (datums_in c.args.equal.now) found c.in_ok-spans.spans
    (All-permutation (IsSpanOf c.args.entries.now (datums_in c.args.equal.now)) _ found
    c.in_ok-sort_by_key.ensures.permutation c.in_ok-found.ensures.each)
    (subst (λ (ss : List Span). All (Contains ss) c.in_ok-spans.spans) c.as_slice.ensures.value
    c.in_ok-spans.ensures.some_of_them)
