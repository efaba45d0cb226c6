-- Look-ups with mock authentication.
use Rattle.std.proofs.Common.{◌≡◌, ◌⊎◌, ℕ, Option, None, Some, false, List, refl, sym, ◌∙◌, ap, subst, inl, inr}
use Rattle.std.specs.Cmp.Lexicographic.{pointwise}
use Rattle.std.specs.Prelude.{is_some, nat_eq, option_map}
use Rattle.fe2o3_scram.specs.Credentials.{Record, Records, record_at, records_with, records_without}
use Rattle.fe2o3_scram.specs.MockSettings.{MockSettings, mock_record, stored_or}
use Rattle.fe2o3_scram.proofs.lemmas.providers.ByNameLemmas.{apart, with-other, with-own, with_mock, without-other, without-own}

-- what was looked up is the record of the name, however the name was written
pub has_record : (mock : Option MockSettings) (records : Records) (user name again : List ℕ)
    (made stored : Option Record) → name ≡ user → again ≡ user
    → made ≡ option_map (λ settings. mock_record settings name) mock → stored ≡ stored_or made (record_at records again)
    → stored_or (option_map (λ settings. mock_record settings user) mock) (record_at records user) ≡ stored
has_record mock records user name again made stored is too makes finds =
    let own : made ≡ option_map (λ settings. mock_record settings user) mock =
    makes ∙ ap (λ (text : List ℕ). option_map (λ settings. mock_record settings text) mock) is in
    sym (finds ∙ (λ i. stored_or (own i) (record_at records (too i))))

-- a store without a name, and one that has its mock record, have one record of each name
pub mock_alike : (mock : MockSettings) (records : Records) (name user : List ℕ)
    → stored_or (Some (mock_record mock user)) (record_at (records_without records name) user)
    ≡ stored_or (Some (mock_record mock user)) (record_at (records_with records name (mock_record mock name)) user)
mock_alike mock records name user = go (apart name user)
  where
    own : (found : Option Record) → record_at records name ≡ found
        → stored_or (Some (mock_record mock name)) (record_at (records_without records name) name)
        ≡ stored_or (Some (mock_record mock name)) (record_at (records_with records name (mock_record mock name)) name)
    own None is = ap (stored_or (Some (mock_record mock name))) (without-own records name ∙ sym
        (ap (λ (kept : Records). record_at kept name) (with_mock records name (mock_record mock name) (ap is_some is))
        ∙ is))
    own (Some stored) is = ap (stored_or (Some (mock_record mock name))) (without-own records name)
        ∙ sym (ap (stored_or (Some (mock_record mock name))) (with-own records name (mock_record mock name) (ap is_some is)))

    go : (name ≡ user) ⊎ (pointwise nat_eq name user ≡ false)
        → stored_or (Some (mock_record mock user)) (record_at (records_without records name) user)
        ≡ stored_or (Some (mock_record mock user)) (record_at (records_with records name (mock_record mock name)) user)
    go (inl same) = subst (λ (at : List ℕ). stored_or (Some (mock_record mock at)) (record_at (records_without records name) at)
        ≡ stored_or (Some (mock_record mock at)) (record_at (records_with records name (mock_record mock name)) at)) same
        (own (record_at records name) refl)
    go (inr other) = ap (stored_or (Some (mock_record mock user)))
        (without-other records name user other ∙ sym (with-other records name user (mock_record mock name) other))
