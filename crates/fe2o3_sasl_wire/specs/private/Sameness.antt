-- The test `same_frame` decides equality, so it is an equivalence, as the impls of `PartialEq` and `Eq` cite.
use Rattle.std.specs.Prelude.{◌≡◌, ℕ, ◌&&◌, List, Option, Some, None, bytes_eq}
use Rattle.std.specs.Option.{option_eq}
use Rattle.std.specs.Bool.{Decides, one_answer}
use Rattle.std.specs.Cmp.{IsEquivalence}
use Rattle.std.specs.Cmp.Lexicographic.{pointwise_decides, bytes_decides}
use Rattle.std.proofs.Common.{refl, sym, ap, eqb}
use Rattle.std.proofs.lemmas.Bool.{and_parts, and_from, eqb-true, eq-eqb}
use Rattle.fe2o3_sasl_wire.specs.declared.amqp_types.SaslCode.{SaslCode}
use Rattle.fe2o3_sasl_wire.specs.declared.amqp_types.SaslCode.TheVariants.{Ok, Auth, Sys, SysPerm, SysTemp}
use Rattle.fe2o3_sasl_wire.specs.SaslFrames.{SaslFrame, Mechanisms, Init, Challenge, Response, Outcome, outcome_code}
use Rattle.fe2o3_sasl_wire.specs.AmqpTypes.{same_frame}

-- optional bytes are compared as such
options_decide : (left right : Option (List ℕ)) → Decides (option_eq bytes_eq left right) (left ≡ right)
options_decide None None = (λ _. refl, λ _. refl)
options_decide (Some bytes) (Some others) =
    let decided = bytes_decides bytes others in
    (λ test. ap Some (decided.0 test), λ same. decided.1 cc)
options_decide _ _ = (λ test. cc, λ same. cc)

-- no two codes have one number
pub same_code : (left right : SaslCode) → outcome_code left ≡ outcome_code right → left ≡ right
same_code Ok Ok same = refl
same_code Auth Auth same = refl
same_code Sys Sys same = refl
same_code SysPerm SysPerm same = refl
same_code SysTemp SysTemp same = refl
same_code _ _ same = cc

-- the test is true exactly of two equal frames
pub same_frame_decides : (left right : SaslFrame) → Decides (same_frame left right) (left ≡ right)
same_frame_decides (Mechanisms names) (Mechanisms others) =
    let decided = pointwise_decides bytes_decides names others in
    (λ test. ap Mechanisms (decided.0 test), λ same. decided.1 cc)
same_frame_decides (Init name first host) (Init other next home) =
    let names = bytes_decides name other in
    let bytes_same = options_decide first next in
    let hosts = options_decide host home in (
      λ test.
          let parts =
          and_parts (bytes_eq name other && option_eq bytes_eq first next) (option_eq bytes_eq host home) test in
          let front = and_parts (bytes_eq name other) (option_eq bytes_eq first next) parts.0 in
          cc (names.0 front.0, bytes_same.0 front.1, hosts.0 parts.1),
      λ same. and_from _ _ (and_from _ _ (names.1 cc) (bytes_same.1 cc)) (hosts.1 cc),
    )
same_frame_decides (Challenge bytes) (Challenge others) =
    let decided = bytes_decides bytes others in
    (λ test. ap Challenge (decided.0 test), λ same. decided.1 cc)
same_frame_decides (Response bytes) (Response others) =
    let decided = bytes_decides bytes others in
    (λ test. ap Response (decided.0 test), λ same. decided.1 cc)
same_frame_decides (Outcome code bytes) (Outcome other others) =
    let bytes_same = options_decide bytes others in (
      λ test.
          let parts = and_parts (eqb (outcome_code code) (outcome_code other)) (option_eq bytes_eq bytes others) test in
          cc (same_code code other (eqb-true (outcome_code code) (outcome_code other) parts.0), bytes_same.0 parts.1),
      λ same.
          let code_is : code ≡ other = cc in
          and_from _ _ (eq-eqb (outcome_code code) (outcome_code other) (ap outcome_code code_is)) (bytes_same.1 cc),
    )
same_frame_decides _ _ = (λ test. cc, λ same. cc)

pub same_frame_equiv : IsEquivalence same_frame
same_frame_equiv = record {
  refl = λ frame. (same_frame_decides frame frame).1 refl;
  symm =
      λ left right. one_answer (same_frame left right) (same_frame right left) (same_frame_decides left right)
      (λ test. sym ((same_frame_decides right left).0 test), λ same. (same_frame_decides right left).1 (sym same));
  congr = λ left right third test. ap (λ frame. same_frame frame third) ((same_frame_decides left right).0 test);
}
