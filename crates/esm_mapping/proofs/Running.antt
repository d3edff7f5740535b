-- What a run may rely on of a configuration that was given, enabled, and where it starts.
use Rattle.std.proofs.Common.{◌≡◌, ℕ, true, false, is_ok, List, [], ◌∷◌, Bool, cond, find, Some, ap, refl, subst, sym}
use Rattle.std.specs.List.{All}
use Rattle.std.proofs.lemmas.List.Elements.{All-head, All-tail}
use Rattle.esm_config.specs.Given.{IsDynamoGiven, IsGiven}
use Rattle.esm_model.specs.Pattern.{read_patterns}
use Rattle.esm_model.specs.Valid.{is_stream, IsValidConfig}
use Rattle.esm_model.specs.declared.config.Config.{Config}
use Rattle.esm_model.specs.declared.config.Kind.{Kind}
use Rattle.esm_model.specs.declared.config.Kind.TheVariants.{Stream, Standard, Fifo}
use Rattle.esm_model.specs.declared.config.Start.{Start}
use Rattle.esm_model.specs.declared.config.Start.TheVariants.{TrimHorizon, Latest, At}
use Rattle.esm_mapping.specs.Expected.{IsGivenAs}
use Rattle.esm_mapping.specs.Named.{IsConfigOf, MayRun}
use Rattle.esm_mapping.specs.Starts.{is_latest, start_after}
use Rattle.esm_mapping.specs.declared.expected.Expected.{Expected}
use Rattle.esm_mapping.specs.declared.expected.Expected.TheVariants.{StreamOrQueue, Stream as stream, Queue, DynamoDb}

config_of_kind : (k : Kind) (c : Config) → c.kind ≡ k → IsValidConfig c → IsConfigOf (is_stream k) c
config_of_kind Stream c is valid = record { kind = is; valid = valid }
config_of_kind Standard c is valid = record { kind = ap is_stream is; valid = valid }
config_of_kind Fifo c is valid = record { kind = ap is_stream is; valid = valid }

pub may_run : (c : Config) (start : Start) → IsGiven c → c.enabled ≡ true → is_latest start ≡ false → MayRun (record { config = c; start = start })
may_run c start given enabled known = record {
  enabled = enabled;
  valid = config_of_kind c.kind c refl given.valid;
  patterns = given.patterns;
  start = known;
}

-- a table's stream is a stream
table_may_run : (c : Config) (start : Start) → IsDynamoGiven c → c.enabled ≡ true → is_latest start ≡ false → MayRun (record { config = c; start = start })
table_may_run c start given enabled known = record {
  enabled = enabled;
  valid = config_of_kind c.kind c refl given.stream.valid;
  patterns = subst (λ kind. is_ok (read_patterns (is_stream kind) c.filters) ≡ true) (sym given.stream.kind) given.patterns;
  start = known;
}

pub may_run_as : (e : Expected) (c : Config) (start : Start) → IsGivenAs e c → c.enabled ≡ true → is_latest start ≡ false → MayRun (record { config = c; start = start })
may_run_as StreamOrQueue c start given enabled known = may_run c start given enabled known
may_run_as stream c start given enabled known = may_run c start given enabled known
may_run_as Queue c start given enabled known = may_run c start given enabled known
may_run_as DynamoDb c start given enabled known = table_may_run c start given enabled known

pub never_latest : (created : ℕ) (start : Start) → is_latest (start_after created start) ≡ false
never_latest created Latest = refl
never_latest created TrimHorizon = refl
never_latest created (At moment) = refl

-- what holds of each element holds of the one that is found

same_found : {X : Type 0} (x y : X) → Some x ≡ Some y → x ≡ y
same_found x y e = cc

pub all_found : {X : Type 0} (P : X → Type 0) (test : X → Bool) (xs : List X) (x : X) → All P xs → find test xs ≡ Some x → P x
all_found P test [] x all is = absurd (cc)
all_found P test (y ∷ ys) x all is =
    (elim (test y) as (λ b. cond b (Some y) (find test ys) ≡ Some x → P x) [
      | true ↦ λ e. subst P (same_found y x e) (All-head P y ys all)
      | false ↦ λ e. all_found P test ys x (All-tail P y ys all) e
    ])
    is
