-- `text::line::put_record` meets its contract. Assumes nothing.
use Rattle.record.specs.TokensAndTags.{decode_token}
use Rattle.text.proofs.Loosely.{path_some, path_room, after_path, whole_line}
use Rattle.text.proofs.line.put_record.Goals as goal

pub put_eights-rest-requires : goal.put_eights-rest-requires
unfolding decode_token
put_eights-rest-requires c = (c.requires.token_width_in_bounds.1.size, c.requires.token_width_in_bounds.1.fits, path_room (decode_token c.args.s.now) c.requires.token_width_in_bounds.1 c.requires.room_for_text, path_some (decode_token c.args.s.now) c.requires.token_width_in_bounds.1)

pub put_rest-requires : goal.put_rest-requires
unfolding decode_token
put_rest-requires c = (c.requires.token_width_in_bounds.0, after_path (decode_token c.args.s.now) c.requires.token_width_in_bounds.1 c.requires.room_for_text c.put_eights-rest.ensures)

pub returns : goal.returns
unfolding decode_token
returns c = whole_line (decode_token c.args.s.now) c.requires.token_width_in_bounds.1 c.put_eights-rest.ensures c.put_rest.ensures
