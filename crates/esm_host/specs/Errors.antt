-- Which of the system's error numbers are temporary. This product's own; the numbers are those of Linux.
use Rattle.std.specs.Prelude.{ℕ, ℤ, pos, negsuc, ◌==◌, Bool, false, List, [], ◌∷◌, Option, None, Some}
use Rattle.std.specs.List.{list_any}

abbrev pub is_among : List ℕ → Option ℤ → Bool
is_among numbers None = false
is_among numbers (Some (negsuc n)) = false
is_among numbers (Some (pos number)) = list_any (λ n. n == number) numbers

-- the system lacks what a connection needs: EAGAIN, ENOMEM, ENFILE, EMFILE, EADDRNOTAVAIL, ENOBUFS
abbrev pub is_wanting : Option ℤ → Bool
is_wanting = is_among (11 ∷ 12 ∷ 23 ∷ 24 ∷ 99 ∷ 105 ∷ [])

-- an `accept` may succeed a little later: EINTR, ENOMEM, ENFILE, EMFILE, ECONNABORTED, ENOBUFS
abbrev pub is_passing : Option ℤ → Bool
is_passing = is_among (4 ∷ 12 ∷ 23 ∷ 24 ∷ 103 ∷ 105 ∷ [])
