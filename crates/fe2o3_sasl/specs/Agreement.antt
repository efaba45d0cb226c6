-- What both sides of a SCRAM login agree on, by their options (RFC 5802, sections 5.1 and 6).
use Rattle.std.specs.Prelude.{◌||◌, Bool}
use Rattle.fe2o3_scram.specs.ChannelBinding.{has_channel}
use Rattle.fe2o3_scram.specs.declared.client_options.ClientOptions.{ClientOptions}
use Rattle.fe2o3_sasl_core.specs.declared.server.options.ServerOptions.{ServerOptions}

-- a server rejects an attribute of RFC 5802 in the place of an extension, whether a connection has a channel or not
abbrev pub server_rejects : ServerOptions → Bool
server_rejects options = options.accept_authzid || (options.reject_misplaced || options.strict)

-- a client rejects it, whether it names an identity or not
abbrev pub client_rejects : ClientOptions → Bool
client_rejects options = has_channel options.channel || options.strict

-- one of them does
abbrev pub agree_on_all : ServerOptions → ClientOptions → Bool
agree_on_all server client = server_rejects server || client_rejects client
