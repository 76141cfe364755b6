mod Tallied
