use Rattle.av1_codes.proofs.word.+rising_word.Given as goal

abbrev pub decreases-rising_word : goal.decreases-rising_word
decreases-rising_word l = l.n
