-- Words that are refused leave no word for the command, and no words are a command.
use Rattle.std.proofs.Common.{◌≡◌, ◌≢◌, ◌⊎◌, ℕ, Bool, true, false, nat_eq, List, [], map, Option, Some, None, IfSome, inl, inr, refl, subst, sym}
use Rattle.std.specs.Prelude.{IfNone}
use Rattle.std.specs.Bool.{Decides}
use Rattle.std.specs.Option.{unwrap_or}
use Rattle.std.specs.String.{string_bytes}
use Rattle.std.proofs.lemmas.Bool.Decides.{Decides-eqb}
use Rattle.esm_run.specs.Built.{SpellsBuilt}
use Rattle.esm_cli.specs.declared.command.Command.{Command}
use Rattle.esm.specs.Opening.{Opens, IsRefused}
use Rattle.esm.specs.declared.opening.Opening.{Opening}

pub refused_opening : (words : List (List ℕ)) (read : Option Opening) (default opening : Opening) → IsRefused words → IfSome read (λ o. Opens words o.folder o.functions o.door (map string_bytes o.command.now)) → opening ≡ unwrap_or read default → opening ≡ default
refused_opening words None default opening refused some is = is
refused_opening words (Some o) default opening refused some is = absurd (refused o.folder o.functions o.door (map string_bytes o.command.now) some)

pub opens_or_refused : (words : List (List ℕ)) (read : Option Opening) (default opening : Opening) → IfSome read (λ o. Opens words o.folder o.functions o.door (map string_bytes o.command.now)) → IfNone read (IsRefused words)
    → opening ≡ unwrap_or read default → Opens words opening.folder opening.functions opening.door (map string_bytes opening.command.now) ⊎ IsRefused words
opens_or_refused words None default opening some none is = inr none
opens_or_refused words (Some o) default opening some none is = inl (subst (λ (x : Opening). Opens words x.folder x.functions x.door (map string_bytes x.command.now)) (sym is) some)

no_words_spell : (c : Command) → SpellsBuilt [] c → ⊥
no_words_spell c h = (let is = h.0.1.first in cc)

pub status_of_no_words : (status : ℕ) (words : List (List ℕ)) → words ≡ [] → (status ≢ 2 → status ≢ 70 → (c : Command) × SpellsBuilt words c) → status ≢ 70 → status ≡ 2
status_of_no_words status words none spelled not-70 = by-test (nat_eq status 2) (Decides-eqb status 2)
  where
    by-test : (b : Bool) → Decides b (status ≡ 2) → status ≡ 2
    by-test true d = d.0 refl
    by-test false d =
        let not-2 : status ≢ 2 = λ e. (let same = d.1 e in cc) in
        let found = spelled not-2 not-70 in
        absurd (no_words_spell found.0 (rw none at found.1))
