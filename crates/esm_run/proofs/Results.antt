-- Facts of what a result holds, and of a truth value that is denied.
use Rattle.std.proofs.Common.{◌≡◌, Bool, true, false, not, refl, subst, Result, Ok, Err}
use Rattle.std.specs.Prelude.{OnOk, OnErr, IfErr, IfOk, IsOkAnd}

pub on_ok : {A E : Type 0} (r : Result A E) (P : Type 0) → P → OnOk r P
on_ok (Ok a) P p = p
on_ok (Err e) P p = tt

pub on_err : {A E : Type 0} (r : Result A E) (P : Type 0) → P → OnErr r P
on_err (Ok a) P p = tt
on_err (Err e) P p = p

pub if_ok : {A E : Type 0} {P Q : A → Type 0} (r : Result A E) → ((a : A) → P a → Q a) → IfOk r P → IfOk r Q
if_ok (Ok a) more p = more a p
if_ok (Err e) more p = tt

pub at_ok : {A E : Type 0} (P : A → Type 0) (r : Result A E) (a : A) → r ≡ Ok a → IfOk r P → P a
at_ok P r a is p = subst (λ (r : Result _ _). IfOk r P) is p

pub by_result : {A E : Type 0} {P : A → Type 0} {Q R : Type 0} (r : Result A E) → ((a : A) → P a → R) → (Q → R) → IfOk r P → OnErr r Q → R
by_result (Ok a) more other p q = more a p
by_result (Err e) more other p q = other q

pub at_err : {A E : Type 0} (P : E → Type 0) (r : Result A E) (e : E) → r ≡ Err e → IfErr r P → P e
at_err P r e is p = subst (λ (r : Result _ _). IfErr r P) is p

pub with_err : {A E : Type 0} {P Q : Type 0} (r : Result A E) → (P → Q) → OnErr r P → OnErr r Q
with_err (Ok a) more p = tt
with_err (Err e) more p = more p

pub with_both : {A E : Type 0} {P Q : A → Type 0} {R : Type 0} (r : Result A E) → ((a : A) → P a → Q a → R) → IsOkAnd r P → IfOk r Q → R
with_both (Ok a) more p q = more a p q
with_both (Err e) more p q = absurd p

pub not_true : (b : Bool) → not b ≡ true → b ≡ false
not_true true is = cc is
not_true false is = refl
