use Rattle.std.proofs.Common.{rules, ◌≡◌, ◌≢◌, length, refl, inl, inr}
use Rattle.fe2o3_scram.specs.Hmac.{digest_len}
use Rattle.fe2o3_scram.proofs.lemmas.messages.RecordTextLemmas.{sized, unsized}
use Rattle.fe2o3_scram.proofs.credentials.record_text.read_values.Goals as goal

pub returns-then-not-is_sized-clause-err : goal.returns-then-not-is_sized-clause-err
returns-then-not-is_sized-clause-err c =
    let stored = c.in_ok-stored_key.stored_key in
    let long : length stored ≢ digest_len c.args.scram_version = search rules in
    λ _. inr (
      λ none. none c.in_ok-salt.salt.items c.in_ok-salt.ensures.ok,
      inr (
        λ none. none stored c.in_ok-stored_key.ensures.ok,
        inr (
          λ none. none c.in_ok-server_key.server_key c.in_ok-server_key.ensures.ok,
          inl (
            unsized c.args.scram_version c.args.fields.now.mechanism.now c.args.fields.now.stored_key.now stored
                c.requires.version c.in_ok-stored_key.ensures.ok long,
            refl,
          ),
        ),
      ),
    )

pub returns-then-not-is_sized-2-clause-err : goal.returns-then-not-is_sized-2-clause-err
returns-then-not-is_sized-2-clause-err c =
    let stored = c.in_ok-stored_key.stored_key in
    let server = c.in_ok-server_key.server_key in
    let fits : length stored ≡ digest_len c.args.scram_version = search rules in
    let long : length server ≢ digest_len c.args.scram_version = search rules in
    λ _. inr (
      λ none. none c.in_ok-salt.salt.items c.in_ok-salt.ensures.ok,
      inr (
        λ none. none stored c.in_ok-stored_key.ensures.ok,
        inr (
          λ none. none server c.in_ok-server_key.ensures.ok,
          inr (
            sized c.args.scram_version c.args.fields.now.mechanism.now c.args.fields.now.stored_key.now stored
                c.requires.version c.in_ok-stored_key.ensures.ok fits,
            inl (
              unsized c.args.scram_version c.args.fields.now.mechanism.now c.args.fields.now.server_key.now server
                  c.requires.version c.in_ok-server_key.ensures.ok long,
              refl,
            ),
          ),
        ),
      ),
    )
