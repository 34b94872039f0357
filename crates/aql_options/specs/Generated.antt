-- The script that is made where none is read: so many users, each of whom knows one, and a query over them.
use Rattle.std.specs.Prelude.{ℕ, zero, suc, ◌+◌, ◌*◌, ◌%◌, List, [], ◌∷◌, ◌++◌, flat_map, codes}
use Rattle.std.specs.Fmt.{decimal}

-- the numbers from 1 to n
abbrev pub up_to : ℕ → List ℕ
up_to zero = []
up_to (suc n) = up_to n ++ suc n ∷ []

abbrev pub user : ℕ → List ℕ
user i = codes "{\"_key\":\"u" ++ (decimal i ++ (codes "\",\"g\":" ++ (decimal (i % 7)
    ++ (codes ",\"n\":" ++ (decimal i ++ codes "}\n")))))

-- of n users each knows the one whose number is three times its own, and one
abbrev pub edge : ℕ → ℕ → List ℕ
edge n i = codes "{\"_key\":\"e" ++ (decimal i ++ (codes "\",\"_from\":\"users/u" ++ (decimal i
    ++ (codes "\",\"_to\":\"users/u" ++ (decimal (3 * i % n + 1) ++ codes "\"}\n")))))

abbrev pub query : List ℕ
query = codes "FOR u IN users FILTER u.g < 3 FOR v IN 1..2 OUTBOUND u knows "
    ++ codes "COLLECT g = u.g AGGREGATE c = COUNT(v), s = SUM(v.n) RETURN [g, c, s]\n"

abbrev pub generated : ℕ → List ℕ
generated n = codes "%document users shards=4\n" ++ (flat_map user (up_to n)
    ++ (codes "%edge knows shards=4\n" ++ (flat_map (edge n) (up_to n)
    ++ (codes "%index users g\n%query\n" ++ query))))
