use Rattle.std.proofs.Common.{◌∙◌}
use Rattle.alg_words.proofs.Matching.{accepted, value_is}
use Rattle.alg_words.proofs.command.values_of.Goals as goal

pub returns-in-Ok-try_get_matches_from-clause-accepted : goal.returns-in-Ok-try_get_matches_from-clause-accepted
returns-in-Ok-try_get_matches_from-clause-accepted c = accepted _ _ c.in-Ok.ensures c.in-Ok-try_get_matches_from.ensures.kinds

pub returns-in-Ok-try_get_matches_from-clause-mode : goal.returns-in-Ok-try_get_matches_from-clause-mode
returns-in-Ok-try_get_matches_from-clause-mode c = c.get_str.ensures ∙ value_is _ _ _ _ c.in-Ok.ensures c.in-Ok-try_get_matches_from.ensures.matches

pub returns-in-Ok-try_get_matches_from-clause-first : goal.returns-in-Ok-try_get_matches_from-clause-first
returns-in-Ok-try_get_matches_from-clause-first c = c.get_str-in-Ok-try_get_matches_from.ensures ∙ value_is _ _ _ _ c.in-Ok.ensures c.in-Ok-try_get_matches_from.ensures.matches

pub returns-in-Ok-try_get_matches_from-clause-second : goal.returns-in-Ok-try_get_matches_from-clause-second
returns-in-Ok-try_get_matches_from-clause-second c = c.get_str-in-Ok-try_get_matches_from-2.ensures ∙ value_is _ _ _ _ c.in-Ok.ensures c.in-Ok-try_get_matches_from.ensures.matches

pub returns-in-Ok-try_get_matches_from-clause-cert : goal.returns-in-Ok-try_get_matches_from-clause-cert
returns-in-Ok-try_get_matches_from-clause-cert c = c.get_str-in-Ok-try_get_matches_from-3.ensures ∙ value_is _ _ _ _ c.in-Ok.ensures c.in-Ok-try_get_matches_from.ensures.matches

pub returns-in-Ok-try_get_matches_from-clause-without : goal.returns-in-Ok-try_get_matches_from-clause-without
returns-in-Ok-try_get_matches_from-clause-without c = c.get_str-in-Ok-try_get_matches_from-4.ensures ∙ value_is _ _ _ _ c.in-Ok.ensures c.in-Ok-try_get_matches_from.ensures.matches
