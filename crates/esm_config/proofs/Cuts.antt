-- What std's methods of `str` say, in the words of the parts of an ARN.
use Rattle.std.proofs.Common.{◌≡◌, ◌∙◌, ◌<◌, ◌+◌, ℕ, Bool, cond, true, false, refl, sym, ap, ap₂, subst, arith, List, ◌++◌, drop, length, Option, Some, None, MatchOption, option_map, Bor, lt-ltb}
use Rattle.std.specs.Prelude.{nat_eq, nat_lt}
use Rattle.std.specs.List.{after_first, before_first, position_or_len, starts_with}
use Rattle.std.specs.Str.Pattern.{FindsTextPrefix}
use Rattle.std.proofs.lemmas.Str.Pattern.{starts_text}
use Rattle.std.proofs.lemmas.Bool.Decides.{nat_tests}
use Rattle.esm_config.specs.Arn.{cut_at, strip}

pub strip_is : (n s : List ℕ) (r : Option (Bor (List ℕ)))
    → MatchOption r (FindsTextPrefix n s None) (λ x. (k : ℕ) × FindsTextPrefix n s (Some k) × (x.now ≡ drop k s) × (length x.now + k ≡ length s))
    → option_map (λ (x : Bor (List ℕ)). x.now) r ≡ strip n s
strip_is n s None h = ap (λ b. cond b (Some (drop (length n) s)) None) (starts_text false n s h)
strip_is n s (Some x) h =
    let found = h.1 in
    let begins : s ≡ n ++ drop (length n) s = subst (λ k. s ≡ n ++ drop k s) found.0 found.1 in
    let yes : true ≡ starts_with nat_eq s n = starts_text true n s (length n, (refl, begins, found.2), found.2) in
    let value : x.now ≡ drop (length n) s = h.2 ∙ ap (λ k. drop k s) found.0 in
    ap (λ (t : List ℕ). Some t) value ∙ ap (λ b. cond b (Some (drop (length n) s)) None) yes

pub cut_is : (c : ℕ → Bool) (bs : List ℕ) (r : Option (Bor (List ℕ) × Bor (List ℕ)))
    → MatchOption r (position_or_len c bs ≡ length bs)
    (λ x. (position_or_len c bs < length bs) × (x.0.now ≡ before_first c bs) × (x.1.now ≡ after_first c bs))
    → option_map (λ (p : Bor (List ℕ) × Bor (List ℕ)). (p.0.now, p.1.now)) r ≡ cut_at c bs
cut_is c bs None h =
    let none : nat_lt (position_or_len c bs) (length bs) ≡ false = grind (arith, nat_tests) in
    sym (ap (λ b. cond b (Some (before_first c bs, after_first c bs)) None) none)
cut_is c bs (Some x) h =
    let some : nat_lt (position_or_len c bs) (length bs) ≡ true = lt-ltb (position_or_len c bs) (length bs) h.0 in
    ap₂ (λ (a b : List ℕ). Some (a, b)) h.1 h.2 ∙ sym (ap (λ b. cond b (Some (before_first c bs, after_first c bs)) None) some)
