-- A text after several appends.
use Rattle.std.proofs.Common.{◌≡◌, ℕ, List, ◌++◌, append_assoc}

-- a word and a source, and a text
pub read : (out o1 o2 a b c : List ℕ) → o1 ≡ out ++ a ++ b → o2 ≡ o1 ++ c → o2 ≡ out ++ (a ++ b ++ c)
read out o1 o2 a b c h1 h2 = rw (h2, h1) (simp append_assoc)

-- and three texts
pub used : (out o1 o2 o3 o4 a b c d e : List ℕ) → o1 ≡ out ++ a ++ b → o2 ≡ o1 ++ c → o3 ≡ o2 ++ d
    → o4 ≡ o3 ++ e → o4 ≡ out ++ (a ++ b ++ c ++ d ++ e)
used out o1 o2 o3 o4 a b c d e h1 h2 h3 h4 = rw (h4, h3, h2, h1) (simp append_assoc)

-- a word, a variable, a sign and an expression
pub over_list : (out o a b c d : List ℕ) → o ≡ out ++ a ++ b ++ c ++ d → o ≡ out ++ (a ++ b ++ c ++ d)
over_list out o a b c d h = rw h (simp append_assoc)

pub with_let : (out o a b c d : List ℕ) → o ≡ out ++ a ++ b ++ c ++ d → o ≡ out ++ (a ++ (b ++ c ++ d))
with_let out o a b c d h = rw h (simp append_assoc)

-- a traversal, whose start stands after a space
pub with_start : (out o1 o2 o3 o4 o5 a b c d e f : List ℕ) → o1 ≡ out ++ a → o2 ≡ o1 ++ b
    → o3 ≡ o2 ++ c ++ d → o4 ≡ o3 ++ e → o5 ≡ o4 ++ f → o5 ≡ out ++ (a ++ b ++ c ++ d ++ e ++ f)
with_start out o1 o2 o3 o4 o5 a b c d e f h1 h2 h3 h4 h5 = rw (h5, h4, h3, h2, h1) (simp append_assoc)

-- three names with their values
pub pairs : (out o1 o2 o3 a b c x y z u v w : List ℕ) → x ≡ u → y ≡ v → z ≡ w
    → o1 ≡ out ++ a ++ x → o2 ≡ o1 ++ b ++ y → o3 ≡ o2 ++ c ++ z
    → o3 ≡ out ++ (a ++ u ++ b ++ v ++ c ++ w)
pairs out o1 o2 o3 a b c x y z u v w hx hy hz h1 h2 h3 = rw (h3, h2, h1, hx, hy, hz) (simp append_assoc)
