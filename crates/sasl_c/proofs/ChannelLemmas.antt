-- Why numbers and bytes say nothing of a channel.
use Rattle.std.proofs.Common.{arith, refl, inl, inr, ◌≡◌, ◌≢◌, ◌<◌, ◌≤◌, ◌⊎◌, ℕ, List}
use Rattle.std.specs.Prelude.{true, false}
use Rattle.std.proofs.Math.Dec.{eqb}
use Rattle.std.proofs.lemmas.Bool.{cases_lt}
use Rattle.std.proofs.lemmas.Bool.Decides.{eqb_tells}
use Rattle.fe2o3_scram.specs.declared.channel_binding.ChannelKind.TheVariants.{TlsUnique, TlsServerEndPoint, TlsExporter}
use Rattle.fe2o3_scram.specs.declared.scram_messages.client_channel.ClientChannel.{ClientChannel}
use Rattle.fe2o3_scram.specs.declared.scram_messages.client_channel.ClientChannel.TheVariants.{Absent, NotOffered, Bound}
use Rattle.fe2o3_scram.specs.Readings.{IsFirst, NoneHolds}
use Rattle.fe2o3_scram.specs.declared.channel_binding.ChannelKind.{ChannelKind}
use Rattle.sasl_c.specs.Channels.{HasNoChannelData, IsChannel, NamesNoChannel, channel_tests, kind_number}
use Rattle.sasl_c.specs.declared.status.Status.TheVariants as statuses

-- a client that binds no channel
pub unbound : (number kind len : ℕ) → number < 2 → NoneHolds (channel_tests number kind len)
unbound number kind len few = (names, (no_data, tt)) where
  names : ¬ NamesNoChannel number kind
  names (inl wide) = absurd (omega (arith, few, wide))
  names (inr (two, none)) = absurd (omega (arith, few, two))

  no_data : ¬ HasNoChannelData number len
  no_data (two, wrong) = absurd (omega (arith, few, two))

-- one that binds a channel
pub bound : (number kind len : ℕ) (known : ChannelKind) → number ≡ 2 → kind ≡ kind_number known
    → 1 ≤ len → len ≤ 64 → NoneHolds (channel_tests number kind len)
bound number kind len known is same some few = (names, (no_data, tt)) where
  names : ¬ NamesNoChannel number kind
  names (inl wide) = absurd (omega (arith, is, wide))
  names (inr (two, none)) = none known same

  no_data : ¬ HasNoChannelData number len
  no_data (two, inl none) = absurd (omega (arith, some, none))
  no_data (two, inr long) = absurd (omega (arith, few, long))

-- an unknown number, an unknown kind, and data of a wrong length
pub no_use : (number kind len : ℕ) → 2 < number
    → IsFirst (channel_tests number kind len) statuses.NoSuchChannel
no_use number kind len wide = inl (inl wide, refl)

pub no_kind : (number kind len : ℕ) → number ≡ 2 → ((known : ChannelKind) → kind ≢ kind_number known)
    → IsFirst (channel_tests number kind len) statuses.NoSuchChannel
no_kind number kind len is none = inl (inr (is, none), refl)

pub no_data : (number kind len : ℕ) (known : ChannelKind) → number ≡ 2 → kind ≡ kind_number known
    → (len ≡ 0) ⊎ (64 < len) → IsFirst (channel_tests number kind len) statuses.ChannelDataLength
no_data number kind len known is same wrong = inr (names, inl ((is, wrong), refl)) where
  names : ¬ NamesNoChannel number kind
  names (inl wide) = absurd (omega (arith, is, wide))
  names (inr (two, none)) = none known same

-- ---- numbers and bytes that pass the tests say something

kind_by : (kind : ℕ) → ((kind ≡ 1) ⊎ (kind ≢ 1)) → ((kind ≡ 2) ⊎ (kind ≢ 2)) → ((kind ≡ 3) ⊎ (kind ≢ 3))
    → ((known : ChannelKind) × (kind ≡ kind_number known)) ⊎ ((known : ChannelKind) → kind ≢ kind_number known)
kind_by kind (inl one) second third = inl (TlsUnique, one)
kind_by kind (inr first) (inl two) third = inl (TlsServerEndPoint, two)
kind_by kind (inr first) (inr second) (inl three) = inl (TlsExporter, three)
kind_by kind (inr first) (inr second) (inr third) = inr none where
  none : (known : ChannelKind) → kind ≢ kind_number known
  none TlsUnique is = first is
  none TlsServerEndPoint is = second is
  none TlsExporter is = third is

equal_or : (a b : ℕ) → (a ≡ b) ⊎ (a ≢ b)
equal_or a b = told (eqb_tells a b) where
  told : ((eqb a b ≡ true) × (a ≡ b)) ⊎ ((eqb a b ≡ false) × (a ≢ b)) → (a ≡ b) ⊎ (a ≢ b)
  told (inl (is, same)) = inl same
  told (inr (is, other)) = inr other

bound_channel : (number kind len : ℕ) (array : List ℕ) → number ≡ 2 → NoneHolds (channel_tests number kind len)
    → ((known : ChannelKind) × (kind ≡ kind_number known)) ⊎ ((known : ChannelKind) → kind ≢ kind_number known)
    → (len < 1) ⊎ (1 ≤ len) → (64 < len) ⊎ (len ≤ 64)
    → (channel : ClientChannel) × IsChannel number kind len array channel
bound_channel number kind len array is none (inr wrong) some few = absurd (none.0 (inr (is, wrong)))
bound_channel number kind len array is none (inl known) (inl empty) few =
    absurd (none.1.0 (is, inl (omega (arith, empty))))
bound_channel number kind len array is none (inl known) (inr some) (inl long) = absurd (none.1.0 (is, inr long))
bound_channel number kind len array is none (inl known) (inr some) (inr few) = (
  Bound (record {
    kind = known.0;
    cbind_data = record { bytes = array; len = len };
  }),
  (is, known.1, refl, some, few),
)

channel_by : (number kind len : ℕ) (array : List ℕ) → NoneHolds (channel_tests number kind len)
    → (number ≡ 0) ⊎ (number ≢ 0) → (number ≡ 1) ⊎ (number ≢ 1) → (2 < number) ⊎ (number ≤ 2)
    → (channel : ClientChannel) × IsChannel number kind len array channel
channel_by number kind len array none (inl zero) one few = (Absent, zero)
channel_by number kind len array none (inr other) (inl one) few = (NotOffered, one)
channel_by number kind len array none (inr other) (inr more) (inl wide) = absurd (none.0 (inl wide))
channel_by number kind len array none (inr other) (inr more) (inr few) =
    bound_channel number kind len array (two other more) none
    (kind_by kind (equal_or kind 1) (equal_or kind 2) (equal_or kind 3)) (cases_lt len 1) (cases_lt 64 len) where
      two : number ≢ 0 → number ≢ 1 → number ≡ 2
      two zero one = omega (arith, zero, one, few)

pub some_channel : (number kind len : ℕ) (array : List ℕ) → NoneHolds (channel_tests number kind len)
    → (channel : ClientChannel) × IsChannel number kind len array channel
some_channel number kind len array none =
    channel_by number kind len array none (equal_or number 0) (equal_or number 1) (cases_lt 2 number)

pub ruleset channels = (unbound, bound, no_use, no_kind, no_data)
