use Rattle.history.proofs.Faults.{half_drained_is_unlawful, lost_update_is_unlawful, torn_read_is_unlawful, unchecked_loads_is_unlawful, leader_beaten_is_unlawful, leader_invalid_is_unlawful, leader_stolen_from_is_unlawful, given_up_word_is_unlawful, both_made_two_is_lawful}
use Rattle.history.proofs.teeth.law_has_teeth.Goals as goal

pub returns : goal.returns
returns c = record {
  half_drained = half_drained_is_unlawful;
  lost_update = lost_update_is_unlawful;
  torn_read = torn_read_is_unlawful;
  unchecked_loads = unchecked_loads_is_unlawful;
  leader_beaten = leader_beaten_is_unlawful;
  leader_invalid = leader_invalid_is_unlawful;
  leader_stolen_from = leader_stolen_from_is_unlawful;
  given_up_word = given_up_word_is_unlawful;
  no_fault = both_made_two_is_lawful;
}
