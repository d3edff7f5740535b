-- What the log of a recorder tells: what the caller below had told, how much of it, and the calls made since.
use Rattle.std.proofs.Common.{◌≡◌, ◌∙◌, ℕ, ◌<◌, Bool, List, [], ◌∷◌, ◌++◌, refl, sym, ap, subst, arith, zero, suc, length, drop, Option, Some, None, append-nil, get_or}
use Rattle.std.specs.Prelude.{slice_index_or, unwrap_or, IfSome}
use Rattle.std.proofs.lemmas.List.{get_or-map}
use Rattle.esm_io.specs.Told.{Grows}
use Rattle.esm_model.specs.declared.called.Called.{Called}
use Rattle.esm_model.specs.declared.entry.Reply.{Reply}
use Rattle.esm_recorder.specs.Recorder.{RecorderState, all_kept, log_of, mark, new_recorder, replies_to, told_before, with_kept}
use Rattle.esm_recorder.specs.Laws.{ListsTell, LogTells, LogsTell}

some_of : {A : Type 0} (x y : A) → Some x ≡ Some y → x ≡ y
some_of x y is = ap (λ o. unwrap_or o x) is

-- lists

heads : {A : Type 0} (x y : A) (xs ys : List A) → x ∷ xs ≡ y ∷ ys → x ≡ y
heads x y xs ys is = ap (λ l. get_or l 0 x) is

tails : {A : Type 0} (x y : A) (xs ys : List A) → x ∷ xs ≡ y ∷ ys → xs ≡ ys
tails x y xs ys is = ap (drop 1) is

apart : {A : Type 0} (xs ys us vs : List A) → length xs ≡ length ys → xs ++ us ≡ ys ++ vs → (xs ≡ ys) × (us ≡ vs)
apart [] [] us vs same is = (refl, is)
apart [] (y ∷ ys) us vs same is = absurd (omega (arith, same))
apart (x ∷ xs) [] us vs same is = absurd (omega (arith, same))
apart (x ∷ xs) (y ∷ ys) us vs same is =
    let rest = apart xs ys us vs (omega (arith, same)) (tails x y (xs ++ us) (ys ++ vs) is) in
    (ap (λ z. z ∷ xs) (heads x y (xs ++ us) (ys ++ vs) is) ∙ ap (λ l. y ∷ l) rest.0, rest.1)

-- the log

numbers : (n m : List ℕ) → mark n ≡ mark m → n ≡ m
numbers n m is = ap (λ (c : Called). c.event) is

told : (a b : Option (List Called)) (xs ys : List Called) → told_before a ++ xs ≡ told_before b ++ ys → (a ≡ b) × (xs ≡ ys)
told None None xs ys is = (refl, tails (mark []) (mark []) xs ys is)
told None (Some ds) xs ys is = absurd (let clash : [] ≡ length ds ∷ [] = numbers [] (length ds ∷ []) (heads (mark []) (mark (length ds ∷ [])) xs (ds ++ ys) is) in cc)
told (Some cs) None xs ys is = absurd (let clash : length cs ∷ [] ≡ [] = numbers (length cs ∷ []) [] (heads (mark (length cs ∷ [])) (mark []) (cs ++ xs) ys is) in cc)
told (Some cs) (Some ds) xs ys is =
    let counts : length cs ≡ length ds = heads (length cs) (length ds) [] [] (numbers (length cs ∷ []) (length ds ∷ []) (heads (mark (length cs ∷ [])) (mark (length ds ∷ [])) (cs ++ xs) (ds ++ ys) is)) in
    let both = apart cs ds xs ys counts (tails (mark (length cs ∷ [])) (mark (length ds ∷ [])) (cs ++ xs) (ds ++ ys) is) in
    (ap Some both.0, both.1)

module _ {F : Type 0} (log : F → Option (List Called)) where
  same_front : (keeps : Bool) (old : F) (new : RecorderState F) (calls : List Called) → Grows (log_of log (new_recorder keeps old)) (log_of log new) calls
      → (log new.found ≡ log old) × (new.logged ≡ calls)
  same_front keeps old new calls grows =
      told (log new.found) (log old) new.logged calls
      (some_of (told_before (log new.found) ++ new.logged) ((told_before (log old) ++ []) ++ calls) grows ∙ ap (λ l. l ++ calls) (append-nil (told_before (log old))))

  pub log_tells : LogTells log
  log_tells keeps old new calls is grows =
      let same = same_front keeps old new calls grows in record {
        below = subst (λ l. Grows l (log new.caller) calls) same.0 (subst (λ cs. Grows (log new.found) (log new.caller) cs) same.1 is.grown);
        kept = subst (λ cs. IfSome new.kept (λ replies. replies ≡ replies_to cs)) same.1 is.kept;
      }

  pub logs_tell : LogsTell log
  logs_tell keeps old new recorded as_many k d e calls within grows =
      let there : k < length new = omega (arith, as_many, within) in
      let made = log_tells keeps (slice_index_or old k d) (slice_index_or new k e) calls (recorded k e there)
      (subst (λ r. Grows (log_of log r) (log_of log (slice_index_or new k e)) calls) (get_or-map (new_recorder keeps) old k d e within) grows) in
      subst (λ c. Grows (log (slice_index_or old k d)) (log c) calls) (sym (get_or-map (λ (r : RecorderState F). r.caller) new k e d there)) made.below

-- the lists of replies

record Parts (o : Option (List Reply)) (p : Option (List (List Reply))) (lists : List (List Reply)) : Type 0 where
  pub first : List Reply
  pub rest : List (List Reply)
  pub is_first : o ≡ Some first
  pub is_rest : p ≡ Some rest
  pub both : lists ≡ first ∷ rest

parts : (o : Option (List Reply)) (p : Option (List (List Reply))) (lists : List (List Reply)) → with_kept o p ≡ Some lists → Parts o p lists
parts None p lists is = absurd (cc)
parts (Some first) None lists is = absurd (cc)
parts (Some first) (Some rest) lists is = record { first = first; rest = rest; is_first = refl; is_rest = refl; both = sym (some_of (first ∷ rest) lists is) }

kept_at : {F : Type 0} (rs : List (RecorderState F)) (lists : List (List Reply)) (k : ℕ) (e : RecorderState F) → all_kept rs ≡ Some lists → k < length rs
    → (slice_index_or rs k e).kept ≡ Some (slice_index_or lists k [])
kept_at [] lists k e all within = absurd (omega (arith, within))
kept_at (r ∷ rs) lists zero e all within =
    let p = parts r.kept (all_kept rs) lists all in p.is_first ∙ ap (λ l. Some (slice_index_or l 0 [])) (sym p.both)
kept_at (r ∷ rs) lists (suc k) e all within =
    let p = parts r.kept (all_kept rs) lists all in
    kept_at rs p.rest k e p.is_rest (omega (arith, within)) ∙ ap (λ l. Some (slice_index_or l (suc k) [])) (sym p.both)

module _ {F : Type 0} (log : F → Option (List Called)) where
  pub lists_tell : ListsTell log
  lists_tell keeps old new recorded as_many lists all k e calls within grows =
      let there : k < length new = omega (arith, as_many, within) in
      let d : F = e.caller in
      let made = log_tells log keeps (slice_index_or old k d) (slice_index_or new k e) calls (recorded k e there)
      (subst (λ r. Grows (log_of log r) (log_of log (slice_index_or new k e)) calls) (get_or-map (new_recorder keeps) old k d e within) grows) in
      subst (λ o. IfSome o (λ replies. replies ≡ replies_to calls)) (kept_at new lists k e all there) made.kept
