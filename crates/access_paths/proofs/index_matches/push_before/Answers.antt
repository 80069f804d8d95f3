use Rattle.access_paths.proofs.Rooms.{room_at}
use Rattle.access_paths.proofs.index_matches.push_before.Goals as goal

pub before-requires : goal.before-requires
before-requires c = record { room = room_at c.args.others.now c.others.other-index c.other-item.result c.requires.room c.others-test.true c.other-item.is }
