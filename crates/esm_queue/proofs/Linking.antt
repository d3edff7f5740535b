-- What a link in a list of links becomes.
use Rattle.std.proofs.Common.{◌≡◌, ℕ, ◌+◌, ◌<◌, ◌≤◌, List, [], ◌∷◌, ◌++◌, length, length-append, set, refl, sym, ap, ◌∙◌, inl, inr, arith}
use Rattle.std.proofs.lemmas.Bool.{cases_lt, cases_eq}
use Rattle.std.proofs.lemmas.List.{length-set, get_or-set_same, get_or-set_other, get_or_append_left, get_or_push, get_or_past}
use Rattle.esm_queue.specs.declared.links.Link.{Link}
use Rattle.esm_queue.specs.declared.links.TheConstants.{NONE}
use Rattle.esm_queue.specs.Links.{blank, link_at, founder_at, next_at, prev_at, last_at, earlier_at, with_next, with_prev, with_last}

pub link_past : (links : List Link) (i : ℕ) → length links ≤ i → link_at links i ≡ blank
link_past links i past = get_or_past links i blank past

-- what a change at one place leaves
pub field_same : (f : Link → ℕ) (links : List Link) (i k : ℕ) (l : Link) → f l ≡ f (link_at links i) → f (link_at (set links i l) k) ≡ f (link_at links k)
field_same f links i k l same =
    elim (cases_eq k i) [
      | inr other ↦ ap f (get_or-set_other links i k l blank other)
      | inl here ↦ elim (cases_lt i (length links)) [
        | inl low ↦ ap (λ j. f (link_at (set links i l) j)) here ∙ (ap f (get_or-set_same links i l blank low) ∙ (same ∙ ap (λ j. f (link_at links j)) (sym here)))
        | inr past ↦ (let sized = length-set links i l in ap f (link_past (set links i l) k (omega arith) ∙ sym (link_past links k (omega arith))))
      ]
    ]

-- a message that came behind n others: its founder, the last message of its group, and the founder before it in its bucket
pub record Appended (n f t e : ℕ) (links new : List Link) : Type 0 where
  pub size : length new ≡ n + 1
  pub founder_old : (k : ℕ) → k < n → founder_at new k ≡ founder_at links k
  pub founder_new : founder_at new n ≡ f
  pub next_tail : t < n → next_at new t ≡ n
  pub next_old : (k : ℕ) → k < n → (k ≡ t → ⊥) → next_at new k ≡ next_at links k
  pub next_new : next_at new n ≡ NONE
  pub prev_old : (k : ℕ) → k < n → prev_at new k ≡ prev_at links k
  pub prev_new : prev_at new n ≡ t
  pub last_new : last_at new f ≡ n
  pub last_old : (k : ℕ) → k < n → (k ≡ f → ⊥) → last_at new k ≡ last_at links k
  pub last_none : (n ≡ f → ⊥) → last_at new n ≡ NONE
  pub earlier_old : (k : ℕ) → k < n → earlier_at new k ≡ earlier_at links k
  pub earlier_new : earlier_at new n ≡ e

abbrev pub appended : ℕ → ℕ → ℕ → ℕ → List Link → List Link
appended n f t e links = with_last (with_next links t n ++ (record { founder = f; next = NONE; prev = t; last = NONE; earlier = e }) ∷ []) f n

-- a field that the message's coming leaves
came_old : (g : Link → ℕ) (links one two three : List Link) (l : Link) (n k : ℕ) → length one ≡ n → two ≡ one ++ l ∷ [] → g (link_at three k) ≡ g (link_at two k) → g (link_at one k) ≡ g (link_at links k) → k < n → g (link_at three k) ≡ g (link_at links k)
came_old g links one two three l n k sized is last first low =
    last ∙ (ap (λ (ls : List Link). g (link_at ls k)) is ∙ (ap g (get_or_append_left one (l ∷ []) blank k (omega arith)) ∙ first))

pub appended_is : (n f t e : ℕ) (links : List Link) → length links ≡ n → f ≤ n → Appended n f t e links (appended n f t e links)
appended_is n f t e links sized low =
    let one : List Link = with_next links t n in
    let l : Link = record { founder = f; next = NONE; prev = t; last = NONE; earlier = e } in
    let two : List Link = one ++ l ∷ [] in
    let three : List Link = with_last two f n in
    let s1 : length one ≡ n = length-set links t (record (link_at links t) { next = n }) ∙ sized in
    let s2 : length two ≡ n + 1 = length-append one (l ∷ []) ∙ omega arith in
    let s3 : length three ≡ n + 1 = length-set two f (record (link_at two f) { last = n }) ∙ s2 in
    let end : link_at two n ≡ l = get_or_push one l blank n s1 in
    let within : f < length two = omega arith in
    record {
      size = s3;
      founder_old = λ k h. came_old (λ x. x.founder) links one two three l n k s1 refl (field_same (λ x. x.founder) two f k (record (link_at two f) { last = n }) refl) (field_same (λ x. x.founder) links t k (record (link_at links t) { next = n }) refl) h;
      founder_new = field_same (λ x. x.founder) two f n (record (link_at two f) { last = n }) refl ∙ ap (λ (x : Link). x.founder) end;
      next_tail = λ h. field_same (λ x. x.next) two f t (record (link_at two f) { last = n }) refl ∙ (ap (λ (x : Link). x.next) (get_or_append_left one (l ∷ []) blank t (omega arith)) ∙ ap (λ (x : Link). x.next) (get_or-set_same links t (record (link_at links t) { next = n }) blank (omega arith)));
      next_old = λ k h ne. came_old (λ x. x.next) links one two three l n k s1 refl (field_same (λ x. x.next) two f k (record (link_at two f) { last = n }) refl) (ap (λ (x : Link). x.next) (get_or-set_other links t k (record (link_at links t) { next = n }) blank ne)) h;
      next_new = field_same (λ x. x.next) two f n (record (link_at two f) { last = n }) refl ∙ ap (λ (x : Link). x.next) end;
      prev_old = λ k h. came_old (λ x. x.prev) links one two three l n k s1 refl (field_same (λ x. x.prev) two f k (record (link_at two f) { last = n }) refl) (field_same (λ x. x.prev) links t k (record (link_at links t) { next = n }) refl) h;
      prev_new = field_same (λ x. x.prev) two f n (record (link_at two f) { last = n }) refl ∙ ap (λ (x : Link). x.prev) end;
      last_new = ap (λ (x : Link). x.last) (get_or-set_same two f (record (link_at two f) { last = n }) blank within);
      last_old = λ k h ne. came_old (λ x. x.last) links one two three l n k s1 refl (ap (λ (x : Link). x.last) (get_or-set_other two f k (record (link_at two f) { last = n }) blank ne)) (field_same (λ x. x.last) links t k (record (link_at links t) { next = n }) refl) h;
      last_none = λ ne. ap (λ (x : Link). x.last) (get_or-set_other two f n (record (link_at two f) { last = n }) blank ne) ∙ ap (λ (x : Link). x.last) end;
      earlier_old = λ k h. came_old (λ x. x.earlier) links one two three l n k s1 refl (field_same (λ x. x.earlier) two f k (record (link_at two f) { last = n }) refl) (field_same (λ x. x.earlier) links t k (record (link_at links t) { next = n }) refl) h;
      earlier_new = field_same (λ x. x.earlier) two f n (record (link_at two f) { last = n }) refl ∙ ap (λ (x : Link). x.earlier) end;
    }

-- a message is taken out from between the one before it, b, and the next one, s; g is its founder where it was the last
pub record Removed (n b s g : ℕ) (links new : List Link) : Type 0 where
  pub size : length new ≡ n
  pub founder_same : (k : ℕ) → founder_at new k ≡ founder_at links k
  pub earlier_same : (k : ℕ) → earlier_at new k ≡ earlier_at links k
  pub next_before : b < n → next_at new b ≡ s
  pub next_else : (k : ℕ) → (k ≡ b → ⊥) → next_at new k ≡ next_at links k
  pub prev_behind : s < n → prev_at new s ≡ b
  pub prev_else : (k : ℕ) → (k ≡ s → ⊥) → prev_at new k ≡ prev_at links k
  pub last_own : g < n → last_at new g ≡ b
  pub last_else : (k : ℕ) → (k ≡ g → ⊥) → last_at new k ≡ last_at links k

abbrev pub removed : ℕ → ℕ → ℕ → List Link → List Link
removed b s g links = with_last (with_prev (with_next links b s) s b) g b

pub removed_is : (n b s g : ℕ) (links : List Link) → length links ≡ n → Removed n b s g links (removed b s g links)
removed_is n b s g links sized =
    let m1 : Link = record (link_at links b) { next = s } in
    let one : List Link = set links b m1 in
    let m2 : Link = record (link_at one s) { prev = b } in
    let two : List Link = set one s m2 in
    let m3 : Link = record (link_at two g) { last = b } in
    let s1 : length one ≡ n = length-set links b m1 ∙ sized in
    let s2 : length two ≡ n = length-set one s m2 ∙ s1 in
    record {
      size = length-set two g m3 ∙ s2;
      founder_same = λ k. field_same (λ x. x.founder) two g k m3 refl ∙ (field_same (λ x. x.founder) one s k m2 refl ∙ field_same (λ x. x.founder) links b k m1 refl);
      earlier_same = λ k. field_same (λ x. x.earlier) two g k m3 refl ∙ (field_same (λ x. x.earlier) one s k m2 refl ∙ field_same (λ x. x.earlier) links b k m1 refl);
      next_before = λ h. field_same (λ x. x.next) two g b m3 refl ∙ (field_same (λ x. x.next) one s b m2 refl ∙ ap (λ (x : Link). x.next) (get_or-set_same links b m1 blank (omega arith)));
      next_else = λ k ne. field_same (λ x. x.next) two g k m3 refl ∙ (field_same (λ x. x.next) one s k m2 refl ∙ ap (λ (x : Link). x.next) (get_or-set_other links b k m1 blank ne));
      prev_behind = λ h. field_same (λ x. x.prev) two g s m3 refl ∙ ap (λ (x : Link). x.prev) (get_or-set_same one s m2 blank (omega arith));
      prev_else = λ k ne. field_same (λ x. x.prev) two g k m3 refl ∙ (ap (λ (x : Link). x.prev) (get_or-set_other one s k m2 blank ne) ∙ field_same (λ x. x.prev) links b k m1 refl);
      last_own = λ h. ap (λ (x : Link). x.last) (get_or-set_same two g m3 blank (omega arith));
      last_else = λ k ne. ap (λ (x : Link). x.last) (get_or-set_other two g k m3 blank ne) ∙ (field_same (λ x. x.last) one s k m2 refl ∙ field_same (λ x. x.last) links b k m1 refl);
    }
