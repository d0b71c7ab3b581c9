use Rattle.serde_json.specs.View.{view}
use Rattle.av1_input.specs.FilmGrain.{grain_rows, no_grain}
use Rattle.av1_input.specs.Rows.{closed}
use Rattle.av1_input.proofs.Rows.{begin, ◌▸◌, end}
use Rattle.av1_input.proofs.film_grain.FilmGrainFromJson.from_json.Goals as goal

pub returns : goal.returns
returns c = end c.finish.result (begin (closed (λ s. s)) grain_rows no_grain (view c.args.value) c.of-members.ensures ▸ c.required.ensures ▸ c.required-2.ensures ▸ c.required-3.ensures ▸ c.required-4.ensures ▸ c.required-5.ensures ▸ c.required-6.ensures ▸ c.required-7.ensures ▸ c.required-8.ensures ▸ c.required-9.ensures ▸ c.required-10.ensures ▸ c.required-11.ensures ▸ c.required-12.ensures ▸ c.required-13.ensures ▸ c.required-14.ensures ▸ c.required-15.ensures ▸ c.required-16.ensures ▸ c.required-17.ensures ▸ c.required-18.ensures ▸ c.required-19.ensures) c.finish.ensures
