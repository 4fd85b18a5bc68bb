mod Differ
