-- Several reads or writes, one after the other, taken as one.
use Rattle.std.proofs.Common.{◌≡◌, ℕ, ◌+◌, ◌-◌, ◌<◌, List, [], ◌++◌, take, drop, length, arith, sym}
use Rattle.std.proofs.Common.{length-append, add-zero, take-append-drop}
use Rattle.std.proofs.lemmas.List.{drop-drop}
use Rattle.std.proofs.Math.Seq.{take-add}
use Rattle.std.proofs.KnownBytes.{Appends-trans, Consumes-trans}
use Rattle.std.specs.declared.option.Option.{Option}
use Rattle.std.specs.Io.KnownBytes.{Appends, Consumes}
use Rattle.aql_io.specs.Bytes.{HandsOut}

-- the first bytes were written, and then some of the next
pub more_appended : (a b c : Option (List ℕ)) (bytes : List ℕ) (at count : ℕ) → Appends a b (take at bytes)
    → Appends b c (take count (drop at bytes)) → Appends a c (take (at + count) bytes)
more_appended a b c bytes at count first second = rw take-add (Appends-trans a b c _ _ first second)

-- some bytes were handed out, and then the next ones
pub more_handed_out : (a b c : Option (List ℕ)) (bytes next : List ℕ) (P : List ℕ → Type 0)
    → Consumes a b bytes → Consumes b c next → P (bytes ++ next) → HandsOut a c P
more_handed_out a b c bytes next P first second holds = record {
  taken = bytes ++ next;
  consumed = Consumes-trans a b c bytes next first second;
  holds = holds;
}

-- more bytes than the limit leaves are past the limit
pub past_limit : (limit : ℕ) (bytes next : List ℕ) (count : ℕ) → length next ≡ count
    → limit - length bytes < count → limit < length (bytes ++ next)
past_limit limit bytes next count whole above = rw length-append (omega arith)

-- what was copied is the front of what was left
pub front_copied : (bytes into : List ℕ) (at count : ℕ) → take count into ≡ take count (drop at bytes)
    → drop at bytes ≡ take count into ++ drop (at + count) bytes
front_copied bytes into at count copied =
    rw (copied, ← drop-drop count at bytes) (sym (take-append-drop count (drop at bytes)))

-- past the end there are no bytes either
pub none_after : (bytes : List ℕ) (at count : ℕ) → count ≡ 0 → drop at bytes ≡ []
    → drop (at + count) bytes ≡ []
none_after bytes at count nothing ends = rw (nothing, add-zero) ends
