use Rattle.std.proofs.Common.{rules, refl, ap, ◌∷◌, ◌++◌, [], List, ℕ}
use Rattle.fe2o3_scram.proofs.lemmas.texts.EscapingLemmas.{all_read, no_escape, none_read, one_more_read}
use Rattle.fe2o3_scram.proofs.scram_messages.escape.spells_name.Goals as goal

pub loop-escape-init : goal.loop-escape-init
loop-escape-init c = record { read = ([], none_read c.args.text.now [] refl); utf8 = c.utf8.text }

pub loop-escape-preserved-in-Some-after : goal.loop-escape-preserved-in-Some-after
loop-escape-preserved-in-Some-after c =
    let name = c.loop-escape.invariant.read.0 in
    let before = c.in-Some.field-0-0.now in record {
      read = (
        (name ++ before) ++ (44 ∷ []),
        one_more_read c.args.text.now name (name ++ before) ((name ++ before) ++ (44 ∷ [])) c.loop-escape.rest.now
            before c.in-Some.escape.now c.in-Some-after.more.now 44 c.requires c.loop-escape.invariant.read.1
            c.in-Some.ensures (ap (λ (bytes : List ℕ). 61 ∷ bytes) c.in-Some-after.ensures) refl refl,
      );
      utf8 = search rules;
    }

pub loop-escape-preserved : goal.loop-escape-preserved
loop-escape-preserved c =
    let name = c.loop-escape.invariant.read.0 in
    let before = c.in-Some.field-0-0.now in record {
      read = (
        (name ++ before) ++ (61 ∷ []),
        one_more_read c.args.text.now name (name ++ before) ((name ++ before) ++ (61 ∷ [])) c.loop-escape.rest.now
            before c.in-Some.escape.now c.in-Some-after-2.more.now 61 c.requires c.loop-escape.invariant.read.1
            c.in-Some.ensures (ap (λ (bytes : List ℕ). 61 ∷ bytes) c.in-Some-after-2.ensures) refl refl,
      );
      utf8 = search rules;
    }

pub returns-in_default-after-2 : goal.returns-in_default-after-2
returns-in_default-after-2 c = (
  λ is. absurd (cc),
  λ spells. absurd (no_escape c.args.text.now c.loop-escape.invariant.read.0 c.loop-escape.rest.now
      c.in-Some.field-0-0.now c.in-Some.escape.now c.requires c.loop-escape.invariant.read.1 c.in-Some.ensures.0
      c.in-Some.ensures.1 c.in_default-after.ensures c.in_default-after-2.ensures spells.0 spells.1),
)

pub returns : goal.returns
returns c = (
  λ is. (
    c.loop-escape.invariant.read.0 ++ c.loop-escape.rest.now,
    all_read c.args.text.now c.loop-escape.invariant.read.0 c.loop-escape.rest.now c.requires
        c.loop-escape.invariant.read.1 c.in_default.ensures,
  ),
  λ spells. refl,
)
