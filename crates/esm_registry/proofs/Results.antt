-- What a clause on a result says once it is known which variant it is.
use Rattle.std.proofs.Common.{◌≡◌, true, false, Some, Result, Ok, Err, OnOk, OnErr, is_err, ap}
use Rattle.std.specs.Result.{result_ok, result_err}

pub on_ok_at : {A B P : Type 0} (r : Result A B) → is_err r ≡ false → OnOk r P → P
on_ok_at (Ok x) e h = h
on_ok_at (Err y) e h = cc

pub on_err_at : {A B P : Type 0} (r : Result A B) → is_err r ≡ true → OnErr r P → P
on_err_at (Ok x) e h = cc
on_err_at (Err y) e h = h

pub on_err : {A B P : Type 0} (r : Result A B) → P → OnErr r P
on_err (Ok x) h = tt
on_err (Err y) h = h

pub ok_from : {A B : Type 0} (r : Result A B) (x : A) → result_ok r ≡ Some x → r ≡ Ok x
ok_from (Ok y) x h = let same : y ≡ x = cc in ap Ok same
ok_from (Err y) x h = cc

pub err_from : {A B : Type 0} (r : Result A B) (y : B) → result_err r ≡ Some y → r ≡ Err y
err_from (Ok x) y h = cc
err_from (Err x) y h = let same : x ≡ y = cc in ap Err same
