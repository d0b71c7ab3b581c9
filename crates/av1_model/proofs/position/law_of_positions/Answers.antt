use Rattle.av1_model.proofs.Positions.{advance_all-append, advance_all_shift, advance_all_valid, fake_advanced_all, range_advanced_all, shift_advanced_all, tokens_advanced_all}
use Rattle.av1_model.proofs.position.law_of_positions.Goals as goal

pub returns-clause-same_range : goal.returns-clause-same_range
returns-clause-same_range c p q ts a b = range_advanced_all p q ts a b

pub returns-clause-same_shift : goal.returns-clause-same_shift
returns-clause-same_shift c p q ts a b = shift_advanced_all p q ts a b

pub returns-clause-in_turn : goal.returns-clause-in_turn
returns-clause-in_turn c p xs ys = advance_all-append p xs ys

pub returns-clause-valid : goal.returns-clause-valid
returns-clause-valid c p ts v w = advance_all_valid p ts v w

pub returns-clause-few : goal.returns-clause-few
returns-clause-few c p ts v w = advance_all_shift p ts v w

pub returns-clause-fake : goal.returns-clause-fake
returns-clause-fake c p ts = fake_advanced_all p ts

pub returns-clause-tokens : goal.returns-clause-tokens
returns-clause-tokens c p ts xs e = tokens_advanced_all p ts xs e
